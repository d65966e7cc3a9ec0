use Rattle.well_sorted.proofs.KeptSignature.{kept}
use Rattle.well_sorted.proofs.laws.signatures_are_kept.Goals as goal

pub returns : goal.returns
returns c = λ p views reads consts w h. kept p w views reads consts h
