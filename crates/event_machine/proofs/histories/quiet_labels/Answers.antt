use Rattle.event_machine.proofs.QuietLemmas.{quiet-holds}
use Rattle.event_machine.proofs.histories.quiet_labels.Goals as goal

pub returns : goal.returns
returns c = quiet-holds
