use Rattle.goal_paths.proofs.CountLemmas.{length-goals}
use Rattle.goal_paths.proofs.laws.goals_are_counted.Goals as goal

pub returns : goal.returns
returns c = length-goals
