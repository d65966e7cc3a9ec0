use Rattle.std.proofs.Common.{sym, ◌∙◌}
use Rattle.crdt_lib.proofs.HistoryLemmas.{seen_length}
use Rattle.crdt_lib.proofs.history.History.len.Goals as goal

pub returns-clause-seen : goal.returns-clause-seen
returns-clause-seen c = rw (← c.self.view_is) (c.count.ensures.length ∙ sym (seen_length c.self.inside.calls))
