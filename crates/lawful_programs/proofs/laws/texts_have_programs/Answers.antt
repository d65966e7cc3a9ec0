use Rattle.lawful_programs.proofs.Programs.{program_is}
use Rattle.lawful_programs.proofs.laws.texts_have_programs.Goals as goal

pub returns : goal.returns
returns c = program_is
