-- What an invocation reads, and why it comes to no value or truth.
use Rattle.std.specs.Prelude.{◌≡◌, ⊤, ℕ, false, ◌||◌, ◌<◌, List, [], length}
use Rattle.rp_lang.specs.Exprs.{Ex}
use Rattle.rp_lang.specs.Formulas.{Fo}
use Rattle.rp_lang.specs.declared.limit.LimitName.TheVariants as limit
use Rattle.rp_lang.specs.declared.program.Program.{Program}
use Rattle.rp_lang.specs.ProgramView.{program_view}
use Rattle.crdt_defs.specs.Atoms.{ints_fit}
use Rattle.crdt_defs.specs.Calls.{calls_view}
use Rattle.crdt_defs.specs.Truths.{Reading, value}
use Rattle.crdt_truth.specs.Breadths.{breadth}
use Rattle.event_machine.specs.States as seen
use Rattle.event_machine.specs.Machine.{listed, calls_of, own_calls, at_invocation}
use Rattle.event_machine.specs.WellFormed.{At}
use Rattle.machine_effects.specs.declared.error.StepErr.{StepErr}
use Rattle.machine_effects.specs.declared.error.StepErr.TheVariants as err
use Rattle.machine_state.specs.declared.state.Run.{Run}
use Rattle.machine_state.specs.declared.state.State.{State}
use Rattle.machine_state.specs.StateView.{state_view}

-- the invocation of that number, as definitions speak of it
abbrev pub Viewed : Program → State → ℕ → seen.Invocation → Type 0
Viewed p s i inv = At (state_view (program_view p) s).invocations i inv

abbrev pub read_at : Program → State → seen.Invocation → Reading
read_at p s inv = at_invocation (program_view p) (state_view (program_view p) s) inv

-- the calls of its view and of its open transaction
abbrev pub IsRead : State → ℕ → List ℕ → Type 0
IsRead s i calls = (run : Run) → At s.runs i run
    → calls ≡ listed (λ c. calls_of (calls_view s.history) run.seen c || own_calls (calls_view s.history) run.tx c) (length (calls_view s.history))

-- the value has an integer that isn't of 64 bits
abbrev pub TooGreat : Program → State → ℕ → Ex → StepErr → Type 0
TooGreat p s i e (err.Limit name) = (name ≡ limit.Integer) × ((inv : seen.Invocation) → Viewed p s i inv → ints_fit (value (read_at p s inv) [] e) ≡ false)
TooGreat p s i e (err.Refused why) = ⊥
TooGreat p s i e err.Memory = ⊤

abbrev pub TooBroad : Program → State → ℕ → Fo → StepErr → Type 0
TooBroad p s i f (err.Limit name) = (name ≡ limit.Breadth) × ((inv : seen.Invocation) → Viewed p s i inv → 50000000 < breadth (read_at p s inv).parts f)
TooBroad p s i f (err.Refused why) = ⊥
TooBroad p s i f err.Memory = ⊤
