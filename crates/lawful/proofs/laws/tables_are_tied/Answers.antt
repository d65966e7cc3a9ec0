use Rattle.lawful.proofs.Tables.{tied}
use Rattle.lawful.proofs.laws.tables_are_tied.Goals as goal

pub returns : goal.returns
returns c = tied
