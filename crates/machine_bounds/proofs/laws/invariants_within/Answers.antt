use Rattle.machine_bounds.proofs.CodeBounds.{invariant-within}
use Rattle.machine_bounds.proofs.laws.invariants_within.Goals as goal

pub returns : goal.returns
returns c = invariant-within
