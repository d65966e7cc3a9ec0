use Rattle.one_invocation.proofs.CameGrows.{came-grows}
use Rattle.one_invocation.proofs.laws.trails_grow.Goals as goal

pub returns : goal.returns
returns c = came-grows
