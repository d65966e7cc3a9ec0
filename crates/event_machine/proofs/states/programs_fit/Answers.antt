use Rattle.event_machine.proofs.ProgramFits.{procs-fit}
use Rattle.event_machine.proofs.states.programs_fit.Goals as goal

pub returns : goal.returns
returns c = procs-fit
