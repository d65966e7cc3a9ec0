use Rattle.std.proofs.Common.{◌∙◌}
use Rattle.crdt_lib.proofs.ListedLemmas.{listed_is}
use Rattle.machine_tests.proofs.sets.is_in.Goals as goal

pub returns : goal.returns
returns c = c.is_ok.ensures.value ∙ listed_is _ _ _ c.requires c.binary_search.ensures.position
