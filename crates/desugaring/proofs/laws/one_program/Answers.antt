use Rattle.desugaring.proofs.Programs.{one_program}
use Rattle.desugaring.proofs.laws.one_program.Goals as goal

pub returns : goal.returns
returns c = λ tree p q a b. one_program tree p q a.1 b.1
