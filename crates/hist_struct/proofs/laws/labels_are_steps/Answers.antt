use Rattle.hist_struct.proofs.StepRows.{nothing-is, label-is}
use Rattle.hist_struct.proofs.laws.labels_are_steps.Goals as goal

pub returns : goal.returns
returns c = record { start = nothing-is; label = label-is }
