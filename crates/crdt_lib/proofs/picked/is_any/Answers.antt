use Rattle.std.proofs.Common.{sym, ◌∙◌, ap, not}
use Rattle.crdt_lib.proofs.PickedLemmas.{some_listed}
use Rattle.crdt_lib.proofs.picked.is_any.Goals as goal

pub returns : goal.returns
returns c = ap not c.is_empty.ensures ∙ sym (some_listed c.args.h.now c.args.calls.now c.requires)
