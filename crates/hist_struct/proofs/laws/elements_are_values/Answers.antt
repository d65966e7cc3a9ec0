use Rattle.rp_lang.proofs.ProgramFacts.{facts}
use Rattle.hist_struct.proofs.ElementValues.{value-of}
use Rattle.hist_struct.proofs.laws.elements_are_values.Goals as goal

pub returns : goal.returns
returns c = λ x consts w t o e h. value-of x consts (facts x.program w) t e o h
