use Rattle.std.proofs.Common.{sym, ◌∙◌}
use Rattle.crdt_lib.proofs.ListedLemmas.{len_from_ascending}
use Rattle.crdt_lib.proofs.view.ListViewView.size.Goals as goal

pub returns : goal.returns
returns c = rw (← c.self.view_is) (c.count.ensures.length ∙ sym (len_from_ascending c.self.inside.calls c.self.invariant))
