use Rattle.type_faults.proofs.Later.{lowered_walk}
use Rattle.type_faults.proofs.walk.Walk.pass.Goals as goal

pub returns : goal.returns
returns c = λ later counted. lowered_walk c.lower.ensures counted
