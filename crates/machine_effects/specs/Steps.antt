-- What a step of the code does.
use Rattle.std.specs.Prelude.{◌≡◌, ⊤, Some, None}
use Rattle.rp_lang.specs.Programs.{Prog}
use Rattle.rp_lang.specs.declared.event.Event.{Event}
use Rattle.rp_lang.specs.declared.event.Event.TheVariants as event
use Rattle.rp_lang.specs.declared.program.Program.{Program}
use Rattle.rp_lang.specs.ProgramView.{program_view}
use Rattle.event_machine.specs.States.{Label, What, Answer, Moved, Checked, Violated, Refused}
use Rattle.event_machine.specs.Machine as spec
use Rattle.machine_state.specs.declared.state.State.{State}
use Rattle.machine_state.specs.Fits.{IsKept, KnowsResults}
use Rattle.machine_state.specs.StateView.{state_view}
use Rattle.machine_state.specs.StepView.{what_view, why_view}
use Rattle.machine_effects.specs.declared.error.StepErr.{StepErr}
use Rattle.machine_effects.specs.declared.error.StepErr.TheVariants as err
use Rattle.machine_effects.specs.Limits.{limit_of}

abbrev pub IsViolation : What → Event → Type 0
IsViolation what (event.Violated found) = what_view found ≡ what
IsViolation what _ = ⊥

-- the event tells the answer, and only a move changes the state
abbrev pub Tells : Prog → State → Answer → State → Event → Type 0
Tells p old (Moved mid) new told = (told ≡ event.Moved) × (state_view p new ≡ mid)
Tells p old Checked new told = (told ≡ event.Checked) × (new ≡ old)
Tells p old (Violated what) new told = IsViolation what told × (new ≡ old)
Tells p old (Refused why) new told = ⊥

-- a label of the machine, within the limits
abbrev pub Steps : Program → State → Label → State → Event → Type 0
Steps p old label new told =
    (limit_of (program_view p) (state_view (program_view p) old) label ≡ None)
    × Tells (program_view p) old (spec.step (program_view p) (state_view (program_view p) old) label) new told

-- a label's effect, within the limits; what a state keeps is kept
pub record Does (p : Program) (old : State) (label : Label) (new : State) (told : Event) : Type 0 where
  pub within : limit_of (program_view p) (state_view (program_view p) old) label ≡ None
  pub tells : Tells (program_view p) old (spec.effect (program_view p) (state_view (program_view p) old) label) new told
  pub places : new.places ≡ old.places
  pub kept : IsKept new
  pub known : KnowsResults (program_view p) new

-- a label that isn't refused meets the limit
abbrev pub Meets : Program → State → Label → StepErr → Type 0
Meets p old label (err.Refused why) = ⊥
Meets p old label (err.Limit name) = limit_of (program_view p) (state_view (program_view p) old) label ≡ Some name
Meets p old label err.Memory = ⊤

abbrev pub IsCause : Program → State → Label → StepErr → Type 0
IsCause p old label (err.Refused why) = spec.refusal (program_view p) (state_view (program_view p) old) label ≡ Some (why_view why)
IsCause p old label (err.Limit name) =
    (spec.refusal (program_view p) (state_view (program_view p) old) label ≡ None)
    × (limit_of (program_view p) (state_view (program_view p) old) label ≡ Some name)
IsCause p old label err.Memory = ⊤

-- the state is as it was, and the error has its cause
abbrev pub Fails : Program → State → Label → State → StepErr → Type 0
Fails p old label new why = (new ≡ old) × IsCause p old label why

-- the same of a label that isn't refused
abbrev pub Stops : Program → State → Label → State → StepErr → Type 0
Stops p old label new why = (new ≡ old) × Meets p old label why
