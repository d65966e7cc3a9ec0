use Rattle.hist_struct.proofs.DefaultLaws.{default-is}
use Rattle.hist_struct.proofs.laws.defaults_are_values.Goals as goal

pub returns : goal.returns
returns c = default-is
