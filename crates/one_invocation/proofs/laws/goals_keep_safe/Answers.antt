use Rattle.one_invocation.proofs.GoalsSafe.{starts-safe, goals-safe}
use Rattle.one_invocation.proofs.laws.goals_keep_safe.Goals as goal

pub returns-clause-starts : goal.returns-clause-starts
returns-clause-starts c = starts-safe

pub returns-clause-safe : goal.returns-clause-safe
returns-clause-safe c = goals-safe
