use Rattle.goal_forms.proofs.MoveLaws.{moves}
use Rattle.goal_forms.proofs.laws.moves_are_exact.Goals as goal

pub returns : goal.returns
returns c = moves
