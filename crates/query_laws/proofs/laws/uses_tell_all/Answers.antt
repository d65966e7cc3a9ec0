use Rattle.query_laws.proofs.Bodies.{inv_follows, proc_follows}
use Rattle.query_laws.proofs.laws.uses_tell_all.Goals as goal

pub returns : goal.returns
returns c = record {
  invariants = inv_follows;
  procedures = proc_follows;
}
