use Rattle.lawful.proofs.Entries.{names_differ}
use Rattle.lawful.proofs.laws.names_differ.Goals as goal

pub returns : goal.returns
returns c = names_differ
