use Rattle.one_invocation.specs.Goals.{goals, IsMet}
use Rattle.one_invocation.proofs.GoalsSafe.{goals-safe}
use Rattle.goal_paths.proofs.NumberLemmas.{all-by-number, by-number-all}
use Rattle.goal_paths.proofs.laws.goals_by_number.Goals as goal

pub returns-clause-met : goal.returns-clause-met
returns-clause-met c p = (by-number-all (IsMet p) (goals p), all-by-number (IsMet p) (goals p))

pub returns-clause-safe : goal.returns-clause-safe
returns-clause-safe c p formed met = goals-safe p formed (all-by-number (IsMet p) (goals p) met)
