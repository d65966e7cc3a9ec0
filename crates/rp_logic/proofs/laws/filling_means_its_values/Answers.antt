use Rattle.rp_logic.proofs.FillingLaws.{filled-holds}
use Rattle.rp_logic.proofs.KeptSorts.{filled-in-sorted}
use Rattle.rp_logic.proofs.laws.filling_means_its_values.Goals as goal

pub returns : goal.returns
returns c = record { meaning = filled-holds; sorted = filled-in-sorted }
