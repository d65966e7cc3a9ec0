-- What a faulty line answers.
use Rattle.std.proofs.Common.{◌≡◌, ℕ, List, Option, None, sym, ap, ◌∙◌}
use Rattle.std.specs.Prelude.{Result, Err}
use Rattle.schedule_fmt.specs.declared.schedule.ScheduleErr.{ScheduleErr}
use Rattle.schedule_fmt.specs.declared.schedule.ScheduleErr.TheVariants as err
use Rattle.event_machine.specs.States.{Label}
use Rattle.schedule_fmt.specs.Texts.{Sched}
use Rattle.schedule_fmt.specs.means.Reading.{with_universe}
use Rattle.schedule_fmt.specs.means.Computed.{IsLine, IsStep}

pub bad_step : (whole : Result (List Label) ℕ) (o : Option Label) (n : ℕ) (e : ScheduleErr) → IsStep o n (Err e) → (o ≡ None → whole ≡ Err n) → IsLine whole e
bad_step whole o n (err.Line m) h f = f h.0 ∙ ap (λ k. Err k) (sym h.1)
bad_step whole o n (err.Limit which) h f = h
bad_step whole o n err.Memory h f = tt

pub labels_bad : (whole : Result Sched ℕ) (u : ℕ) (r : Result (List Label) ℕ) (e : ScheduleErr) → whole ≡ with_universe u r → IsLine r e → IsLine whole e
labels_bad whole u r (err.Line n) w h = w ∙ ap (with_universe u) h
labels_bad whole u r (err.Limit which) w h = h
labels_bad whole u r err.Memory w h = tt
