use Rattle.hist_struct.proofs.Together.{exact}
use Rattle.hist_struct.proofs.laws.axioms_are_exact.Goals as goal

pub returns : goal.returns
returns c = exact
