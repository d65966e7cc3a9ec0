use Rattle.type_faults.proofs.Later.{raised_walk}
use Rattle.type_faults.proofs.walk.Walk.raise_all.Goals as goal

pub returns : goal.returns
returns c = λ later counted. raised_walk later c.in_ok-raise_each.ensures counted
