use Rattle.std.proofs.Common.{arith}
use Rattle.rp_print.proofs.Appends.{appends}
use Rattle.rp_print.proofs.Nonempty.{some_vars}
use Rattle.rp_print.proofs.expr.put_bindings.Goals as goal

pub returns : goal.returns
returns c = let e = some_vars c.args.vars.now c.if-is_empty.ensures in grind (arith, appends, e)
