use Rattle.lawful.proofs.Numbering.{constructors_numbered}
use Rattle.lawful.proofs.laws.constructors_are_numbered.Goals as goal

pub returns : goal.returns
returns c = constructors_numbered
