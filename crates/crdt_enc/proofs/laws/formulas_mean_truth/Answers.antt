use Rattle.crdt_enc.proofs.ClosedLaws.{formula-law}
use Rattle.crdt_enc.proofs.laws.formulas_mean_truth.Goals as goal

pub returns : goal.returns
returns c = λ r M at stage f h vars. formula-law r M at stage f h vars
