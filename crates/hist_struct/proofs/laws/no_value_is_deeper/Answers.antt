use Rattle.hist_struct.proofs.DepthLaws.{no-deeper}
use Rattle.hist_struct.proofs.laws.no_value_is_deeper.Goals as goal

pub returns : goal.returns
returns c = no-deeper
