use Rattle.crdt_lib.proofs.HistoryLemmas.{empty_history}
use Rattle.crdt_lib.proofs.history.History.new.Goals as goal

pub invariant_of-result : goal.invariant_of-result
invariant_of-result c = rw c.new.ensures empty_history
