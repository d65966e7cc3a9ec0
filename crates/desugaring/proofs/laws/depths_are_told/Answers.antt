use Rattle.desugaring.proofs.DepthsLaw.{depths_go}
use Rattle.desugaring.proofs.laws.depths_are_told.Goals as goal

pub returns : goal.returns
returns c = depths_go
