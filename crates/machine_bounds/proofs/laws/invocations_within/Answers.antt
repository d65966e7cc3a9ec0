use Rattle.machine_bounds.proofs.CodeBounds.{invocation-within}
use Rattle.machine_bounds.proofs.laws.invocations_within.Goals as goal

pub returns : goal.returns
returns c = invocation-within
