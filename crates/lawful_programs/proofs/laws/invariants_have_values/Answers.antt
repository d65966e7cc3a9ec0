use Rattle.lawful_programs.proofs.Invariants.{invs_there}
use Rattle.lawful_programs.proofs.laws.invariants_have_values.Goals as goal

pub returns : goal.returns
returns c = invs_there
