use Rattle.hist_struct.proofs.StructureLaws.{is-structure}
use Rattle.hist_struct.proofs.laws.steps_are_structures.Goals as goal

pub returns : goal.returns
returns c = is-structure
