use Rattle.std.proofs.Common.{◌∙◌, arith}
use Rattle.type_tables.proofs.Seen.{cut}
use Rattle.type_tables.proofs.vars.Vars.truncate.Goals as goal

pub returns : goal.returns
returns c = c.loop-gone.invariant ∙ cut c.args.self.now c.loop-gone._gone c.args.len (omega arith)
