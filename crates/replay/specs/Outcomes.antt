-- How a schedule ends, and where a step on the way meets a limit.
use Rattle.std.specs.Prelude.{◌≡◌, ⊤, ℕ, ◌+◌, ◌<◌, List, All, take, Some, None, slice_get}
use Rattle.rp_lang.specs.Programs.{Prog}
use Rattle.rp_lang.specs.declared.limit.LimitName.{LimitName}
use Rattle.rp_lang.specs.declared.program.Program.{Program}
use Rattle.event_machine.specs.States.{State, Label}
use Rattle.event_machine.specs.Machine.{refusal}
use Rattle.event_machine.specs.Runs as runs
use Rattle.machine_effects.specs.Limits.{limit_of}
use Rattle.machine_state.specs.Fits.{StepFits}
use Rattle.machine_state.specs.StepView.{what_view, why_view}
use Rattle.schedule_fmt.specs.declared.schedule.Schedule.{Schedule}
use Rattle.replay.specs.declared.replayed.Outcome.{Outcome}
use Rattle.replay.specs.declared.replayed.Outcome.TheVariants as end
use Rattle.replay.specs.declared.replayed.ReplayErr.{ReplayErr}
use Rattle.replay.specs.declared.replayed.ReplayErr.TheVariants as err

abbrev pub outcome_view : Outcome → runs.Outcome
outcome_view (end.Clean steps) = runs.Clean steps
outcome_view (end.Violated step what) = runs.ViolatedAt step (what_view what)
outcome_view (end.Refused step why) = runs.RefusedAt step (why_view why)

-- each step is one of the program's
abbrev pub AreSteps : Program → Schedule → Type 0
AreSteps p s = All (StepFits p) s.steps

-- From the state on the labels before place n are a run, and the one there isn't refused and meets the limit.
pub record MeetsLimit (p : Prog) (start : State) (labels : List Label) (n : ℕ) (which : LimitName) : Type 0 where
  pub old : State
  pub label : Label
  pub run : runs.Run p start (take n labels) old
  pub next : slice_get labels n ≡ Some label
  pub accepted : refusal p old label ≡ None
  pub limit : limit_of p old label ≡ Some which

-- no label before place n meets a limit
abbrev pub IsUnlimited : Prog → State → List Label → ℕ → Type 0
IsUnlimited p start labels n = (k : ℕ) → k < n → (which : LimitName) → MeetsLimit p start labels k which → ⊥

-- no label meets one
abbrev pub MeetsNone : Prog → State → List Label → Type 0
MeetsNone p start labels = (k : ℕ) (which : LimitName) → MeetsLimit p start labels k which → ⊥

-- a limit is that of the first label that meets one, counted from 1
abbrev pub IsCause : Prog → State → List Label → ReplayErr → Type 0
IsCause p start labels err.Memory = ⊤
IsCause p start labels (err.Limit which step) = (n : ℕ) × (step ≡ n + 1) × MeetsLimit p start labels n which × IsUnlimited p start labels n
