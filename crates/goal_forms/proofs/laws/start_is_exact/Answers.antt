use Rattle.goal_forms.proofs.StartLaws.{start-exact}
use Rattle.goal_forms.proofs.laws.start_is_exact.Goals as goal

pub returns : goal.returns
returns c = start-exact
