use Rattle.event_machine.proofs.TypedKept.{empty-typed, step-typed}
use Rattle.event_machine.proofs.states.typed_states.Goals as goal

pub returns-clause-begins : goal.returns-clause-begins
returns-clause-begins c = empty-typed

pub returns-clause-kept : goal.returns-clause-kept
returns-clause-kept c = step-typed
