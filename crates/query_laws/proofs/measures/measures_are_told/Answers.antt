use Rattle.query_laws.proofs.Totals.{measures_told}
use Rattle.query_laws.proofs.measures.measures_are_told.Goals as goal

pub returns : goal.returns
returns c = measures_told
