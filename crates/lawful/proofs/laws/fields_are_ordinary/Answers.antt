use Rattle.lawful.proofs.DataFields.{fields_ordinary}
use Rattle.lawful.proofs.laws.fields_are_ordinary.Goals as goal

pub returns : goal.returns
returns c = fields_ordinary
