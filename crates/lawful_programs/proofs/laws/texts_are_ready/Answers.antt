use Rattle.lawful_programs.proofs.Texts.{text_ready}
use Rattle.lawful_programs.proofs.laws.texts_are_ready.Goals as goal

pub returns : goal.returns
returns c = text_ready
