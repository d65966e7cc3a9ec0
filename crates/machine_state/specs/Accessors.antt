-- What is asked of a state.
use Rattle.std.specs.Prelude.{ℕ, Bool, true, false, Option, Some, None, option_and_then, slice_get, if◌then◌else◌}
use Rattle.rp_value.specs.declared.value.Value.{Value}
use Rattle.crdt_truth.specs.declared.reading.Info.{Info}
use Rattle.crdt_truth.specs.declared.reading.Outcome.{Outcome}
use Rattle.crdt_truth.specs.declared.reading.Outcome.TheVariants.{Unreturned, Returned, ReturnedWith}
use Rattle.event_machine.specs.Code as left
use Rattle.event_machine.specs.Code.{Code}
use Rattle.event_machine.specs.Machine as spec
use Rattle.event_machine.specs.States.{State, Invocation, Action}
use Rattle.machine_state.specs.declared.state.Standing as stood
use Rattle.machine_state.specs.declared.state.Standing.TheVariants as stand

abbrev pub next_inv : Invocation → Option Action
next_inv inv = if spec.is_running inv.standing then Some (spec.next_action inv.left) else None

-- what an invocation does next, if it is running
abbrev pub next : State → ℕ → Option Action
next s i = option_and_then next_inv (slice_get s.invocations i)

abbrev pub new_left : Code → Option ℕ
new_left (left.New slot ty next) = Some ty
new_left code = None

abbrev pub new_inv : Invocation → Option ℕ
new_inv inv = if spec.is_running inv.standing then new_left inv.left else None

-- the id type of the next `new`
abbrev pub new_type : State → ℕ → Option ℕ
new_type s i = option_and_then new_inv (slice_get s.invocations i)

abbrev pub is_running : stood.Standing → Bool
is_running stand.Running = true
is_running stand.Returned = false
is_running stand.Failed = false

abbrev pub is_returned : stood.Standing → Bool
is_returned stand.Running = false
is_returned stand.Returned = true
is_returned stand.Failed = false

abbrev pub has_ended : Outcome → Bool
has_ended Unreturned = false
has_ended Returned = true
has_ended (ReturnedWith v) = true

abbrev pub has_returned : Option Info → Bool
has_returned None = false
has_returned (Some info) = has_ended info.outcome

abbrev pub value_in : Outcome → Option Value
value_in Unreturned = None
value_in Returned = None
value_in (ReturnedWith v) = Some v

abbrev pub result_of : Option Info → Option Value
result_of None = None
result_of (Some info) = value_in info.outcome
