use Rattle.std.proofs.Common.{◌<◌, sym, arith}
use Rattle.machine_tests.proofs.ClosedLemmas.{first_found}
use Rattle.machine_tests.proofs.closed.first_unseen.Goals as goal

pub returns-then-is_unseen : goal.returns-then-is_unseen
returns-then-is_unseen c = let lt : c.loop-tx.tx < c.args.txs = omega arith in sym (first_found _ _ _ lt c.loop-tx.invariant (sym c.if-is_unseen.ensures))
