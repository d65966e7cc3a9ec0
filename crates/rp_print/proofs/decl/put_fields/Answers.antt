use Rattle.std.proofs.Common.{arith}
use Rattle.rp_print.proofs.Appends.{appends}
use Rattle.rp_print.proofs.Nonempty.{some_fields}
use Rattle.rp_print.proofs.decl.put_fields.Goals as goal

pub returns : goal.returns
returns c = let e = some_fields c.args.fields.now c.if-is_empty.ensures in grind (arith, appends, e)
