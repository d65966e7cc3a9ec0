use Rattle.goal_paths.proofs.CountLemmas.{returns-of}
use Rattle.goal_paths.proofs.laws.paths_are_counted.Goals as goal

pub returns-clause-returns : goal.returns-clause-returns
returns-clause-returns c = returns-of
