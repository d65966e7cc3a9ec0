use Rattle.goal_forms.proofs.ClaimLaws.{claims}
use Rattle.goal_forms.proofs.laws.claims_are_exact.Goals as goal

pub returns : goal.returns
returns c = claims
