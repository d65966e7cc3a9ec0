use Rattle.lawful.proofs.WellFormed.{well_formed}
use Rattle.lawful.proofs.laws.programs_are_well_formed.Goals as goal

pub returns : goal.returns
returns c = well_formed
