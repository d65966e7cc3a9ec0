use Rattle.desugaring.proofs.Sound.{sound}
use Rattle.desugaring.proofs.Found.{found}
use Rattle.desugaring.proofs.SoundStmts.{runs_there}
use Rattle.desugaring.proofs.FoundStmts.{block_found}
use Rattle.desugaring.proofs.Programs.{program_there, program_is}
use Rattle.desugaring.proofs.laws.computed_programs.Goals as goal

pub returns-clause-expressions : goal.returns-clause-expressions
returns-clause-expressions c = λ t b vs asked e v. (sound t b vs asked e v, found t b vs asked e v)

pub returns-clause-blocks : goal.returns-clause-blocks
returns-clause-blocks c = λ t b p vs next x m. (runs_there t b p vs next x m, block_found t b p vs next x m.body m.slots)

pub returns-clause-programs : goal.returns-clause-programs
returns-clause-programs c = λ tree p. (program_there tree p, program_is tree p)
