use Rattle.crdt_defs.proofs.SameLemmas.{same_is}
use Rattle.crdt_lib.proofs.doing.same.Goals as goal

pub returns : goal.returns
returns c = same_is _ _ _ c.same.ensures
