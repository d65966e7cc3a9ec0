use Rattle.reshape.proofs.PassLaws.{eliminated-is}
use Rattle.reshape.proofs.SomeLaws.{some-eliminated-is}
use Rattle.reshape.proofs.ReshapeLaws.{alls-swap, all-out}
use Rattle.reshape.proofs.laws.reshaping_keeps_meaning.Goals as goal

pub returns : goal.returns
returns c = record { eliminates = eliminated-is; eliminates_some = some-eliminated-is; swaps = alls-swap; comes_out = all-out }
