-- Answers against what is computed.
use Rattle.std.specs.Prelude.{ℕ, ◌≡◌, List, map, Option, Some, None, Result, Ok, Err}
use Rattle.rp_lang.specs.declared.step.Step.{Step}
use Rattle.event_machine.specs.States.{Label}
use Rattle.schedule_fmt.specs.declared.schedule.Schedule.{Schedule}
use Rattle.schedule_fmt.specs.declared.schedule.ScheduleErr.{ScheduleErr}
use Rattle.schedule_fmt.specs.declared.schedule.ScheduleErr.TheVariants as err
use Rattle.schedule_fmt.specs.Texts.{Sched}
use Rattle.schedule_fmt.specs.Views.{label_view, schedule_view}

-- the error names the faulty line, or memory ran out
abbrev pub IsLine : {A : Type 0} → Result A ℕ → ScheduleErr → Type 0
IsLine computed (err.Line n) = computed ≡ Err n
IsLine computed (err.Limit which) = ⊥
IsLine computed err.Memory = Unit {0}

-- the answer is the computed schedule, or the faulty line, or memory ran out
abbrev pub IsFound : Result Sched ℕ → Result Schedule ScheduleErr → Type 0
IsFound computed (Ok s) = computed ≡ Ok (schedule_view s)
IsFound computed (Err e) = IsLine computed e

abbrev pub AreFound : Result (List Label) ℕ → Result (List Step) ScheduleErr → Type 0
AreFound computed (Ok steps) = computed ≡ Ok (map label_view steps)
AreFound computed (Err e) = IsLine computed e

-- the same for the line of a number
abbrev pub IsStep : Option Label → ℕ → Result Step ScheduleErr → Type 0
IsStep computed n (Ok step) = computed ≡ Some (label_view step)
IsStep computed n (Err (err.Line m)) = (computed ≡ None) × (m ≡ n)
IsStep computed n (Err (err.Limit which)) = ⊥
IsStep computed n (Err err.Memory) = Unit {0}
