use Rattle.crdt_defs.proofs.SameLemmas.{same_is}
use Rattle.crdt_truth.proofs.meaning.same.Goals as goal

pub returns : goal.returns
returns c = same_is _ _ _ c.same.ensures
