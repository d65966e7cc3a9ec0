use Rattle.machine_effects.proofs.StepLemmas.{fits_after}
use Rattle.machine_effects.proofs.laws.states_fit.Goals as goal

pub returns : goal.returns
returns c = fits_after
