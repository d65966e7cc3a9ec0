use Rattle.one_invocation.proofs.GoalPlaceLemmas.{goals-are, are-goals}
use Rattle.one_invocation.proofs.laws.goals_of_places.Goals as goal

pub returns : goal.returns
returns c p g = (goals-are p g, (λ of. are-goals p of))
