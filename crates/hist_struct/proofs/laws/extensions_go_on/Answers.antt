use Rattle.hist_struct.proofs.ExtensionLaws.{itself, further}
use Rattle.hist_struct.proofs.laws.extensions_go_on.Goals as goal

pub returns : goal.returns
returns c = record { itself = itself; further = further }
