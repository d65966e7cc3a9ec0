use Rattle.event_machine.proofs.TestLemmas.{false_goal, is_false-goal}
use Rattle.event_machine.proofs.laws.false_by_trying.Goals as goal

pub returns : goal.returns
returns c one = (false_goal one, is_false-goal one)
