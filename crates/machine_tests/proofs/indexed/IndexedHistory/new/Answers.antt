use Rattle.machine_tests.proofs.IndexLemmas.{indexed_none}
use Rattle.machine_tests.proofs.indexed.IndexedHistory.new.Goals as goal

pub invariant_of-result : goal.invariant_of-result
invariant_of-result c = rw (c.new.ensures, c.new-2.ensures.items) indexed_none
