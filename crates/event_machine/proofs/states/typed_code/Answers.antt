use Rattle.event_machine.proofs.TypedKept.{procs-typed}
use Rattle.event_machine.proofs.states.typed_code.Goals as goal

pub returns : goal.returns
returns c = procs-typed
