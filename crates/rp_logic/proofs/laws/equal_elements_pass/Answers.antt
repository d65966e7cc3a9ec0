use Rattle.rp_logic.proofs.ElementLaws.{same-is, is-same}
use Rattle.rp_logic.proofs.laws.equal_elements_pass.Goals as goal

pub returns : goal.returns
returns c = λ x y. (same-is x y, is-same x y)
