use Rattle.rp_logic.proofs.DualSorts.{dual-dual, dual-sorted}
use Rattle.rp_logic.proofs.laws.duals_are_mutual.Goals as goal

pub returns : goal.returns
returns c = record { twice = dual-dual; sorted = dual-sorted }
