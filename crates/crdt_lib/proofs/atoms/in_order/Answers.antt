use Rattle.crdt_lib.proofs.AtomLemmas.{once_ascending, once_same}
use Rattle.crdt_lib.proofs.atoms.in_order.Goals as goal

pub returns-clause-ascending : goal.returns-clause-ascending
returns-clause-ascending c = once_ascending _ _ c.in_ok-sort.ensures.sorted c.dedup.ensures.filtered

pub returns-clause-same : goal.returns-clause-same
returns-clause-same c = once_same _ _ _ c.in_ok-sort.ensures.permutation c.dedup.ensures.filtered
