-- What an answer of `read` says, and that it is the only one.
use Rattle.std.proofs.Common.{◌≡◌, ℕ, List, Some, None, sym, ap, ◌∙◌}
use Rattle.std.specs.Prelude.{Result, Ok, Err}
use Rattle.rp_lang.specs.declared.limit.LimitName.{LimitName}
use Rattle.rp_lang.specs.Programs.{Prog}
use Rattle.schedule_fmt.specs.declared.schedule.Schedule.{Schedule}
use Rattle.schedule_fmt.specs.declared.schedule.ScheduleErr.{ScheduleErr}
use Rattle.schedule_fmt.specs.declared.schedule.ScheduleErr.TheVariants as err
use Rattle.schedule_fmt.specs.Texts.{Sched}
use Rattle.schedule_fmt.specs.Schedules.{IsText, IsFaulty}
use Rattle.schedule_fmt.specs.means.Reading.{schedule}
use Rattle.schedule_fmt.specs.Views.{schedule_view}
use Rattle.schedule_fmt.specs.Answers.{passed, IsAnswer, IsRead, IsRefused}
use Rattle.schedule_fmt.specs.means.Computed.{IsLine}
use Rattle.schedule_fmt.proofs.Faults.{one_schedule, schedule_sound, schedule_faulty, one_line}

-- a faulty line is named
pub line_answer : (p : Prog) (bytes : List ℕ) (e : ScheduleErr) → IsLine (schedule p bytes) e → IsAnswer p bytes (Err e)
line_answer p bytes (err.Line n) h = schedule_faulty p bytes n h
line_answer p bytes (err.Limit which) h = absurd h
line_answer p bytes err.Memory h = tt

pub limit_answer : (p : Prog) (bytes : List ℕ) (s : Schedule) (which : LimitName) → schedule p bytes ≡ Ok (schedule_view s) → passed (schedule_view s) ≡ Some which → IsAnswer p bytes (Err (err.Limit which))
limit_answer p bytes s which h q = (schedule_view s, schedule_sound p bytes (schedule_view s) h, q)

pub ok_answer : (p : Prog) (bytes : List ℕ) (s : Schedule) → schedule p bytes ≡ Ok (schedule_view s) → passed (schedule_view s) ≡ None → IsAnswer p bytes (Ok s)
ok_answer p bytes s h q = (schedule_sound p bytes (schedule_view s) h, q)

pub every_text : (p : Prog) (bytes : List ℕ) (r : Result Schedule ScheduleErr) → IsAnswer p bytes r → (s : Sched) → IsText p s bytes → IsRead s r
every_text p bytes (Ok found) a s t = let e = one_schedule p (schedule_view found) s bytes a.0 t in (e, ap passed (sym e) ∙ a.1)
every_text p bytes (Err (err.Line n)) a s t = a.no_text s t
every_text p bytes (Err (err.Limit which)) a s t = ap passed (one_schedule p s a.0 bytes t a.1) ∙ a.2
every_text p bytes (Err err.Memory) a s t = tt

pub every_fault : (p : Prog) (bytes : List ℕ) (r : Result Schedule ScheduleErr) → IsAnswer p bytes r → (n : ℕ) → IsFaulty p bytes n → IsRefused n r
every_fault p bytes (Ok found) a n f = f.no_text (schedule_view found) a.0
every_fault p bytes (Err (err.Line m)) a n f = one_line p bytes m n a f
every_fault p bytes (Err (err.Limit which)) a n f = f.no_text a.0 a.1
every_fault p bytes (Err err.Memory) a n f = tt
