-- What definitions speak of, of what the code has.
pub use Rattle.step_labels.specs.StepLabels.{label_view}
use Rattle.std.specs.Prelude.{◌≡◌, ℕ, List, [], ◌∷◌, ◌++◌, Option, Some, map}
use Rattle.rp_value.specs.declared.value.Value.{Value}
use Rattle.rp_value.specs.Values.{Val, Vals}
use Rattle.rp_value.specs.ValueView.{value_view, values_view}
use Rattle.rp_lang.specs.declared.step.Step.{Step}
use Rattle.event_machine.specs.States.{Label}
use Rattle.schedule_fmt.specs.declared.schedule.Schedule.{Schedule}
use Rattle.schedule_fmt.specs.Texts.{Sched}

abbrev pub schedule_view : Schedule → Sched
schedule_view s = record { universe = s.universe; labels = map label_view s.steps }

-- # Each with the place behind it

abbrev pub value_at : Value × ℕ → Val × ℕ
value_at r = (value_view r.0, r.1)

abbrev pub args_at : List Value × ℕ → Vals × ℕ
args_at r = (values_view r.0, r.1)

abbrev pub values_at : List Value × ℕ → List Val × ℕ
values_at r = (map value_view r.0, r.1)

abbrev pub label_at : Step × ℕ → Label × ℕ
label_at r = (label_view r.0, r.1)

-- the list with the value that was read at its end, and the place behind its text
abbrev pub Added : Option (Val × ℕ) → List Value → List Value → ℕ → Type 0
Added o old new to = (v : Value) × (new ≡ old ++ v ∷ []) × (o ≡ Some (value_at (v, to)))
