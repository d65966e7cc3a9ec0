use Rattle.query_laws.proofs.Names.{names_told}
use Rattle.query_laws.proofs.laws.names_are_told.Goals as goal

pub returns : goal.returns
returns c = names_told
