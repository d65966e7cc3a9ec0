use Rattle.rp_logic.proofs.DualLaws.{dual_law}
use Rattle.rp_logic.proofs.laws.dual_is_the_denial.Goals as goal

pub returns : goal.returns
returns c = λ f M vars. dual_law f M vars
