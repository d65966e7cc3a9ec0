-- What answers say.
use Rattle.std.specs.Prelude.{ℕ, ◌≡◌, ◌≤◌, ◌++◌, drop, Bool, ◌&&◌, nat_lt, nat_le, if◌then◌else◌, List, length, Option, Some, None, Result, Ok, Err}
use Rattle.rp_value.specs.declared.tables.Ty.{Ty}
use Rattle.rp_value.specs.Values.{Val}
use Rattle.rp_value.specs.ValueView.{value_view}
use Rattle.rp_lang.specs.declared.limit.LimitName.{LimitName}
use Rattle.rp_lang.specs.declared.limit.LimitName.TheVariants.{Universe, Steps}
use Rattle.rp_lang.specs.Limits.{limit_number}
use Rattle.rp_lang.specs.Programs.{Prog}
use Rattle.schedule_fmt.specs.declared.schedule.Schedule.{Schedule}
use Rattle.schedule_fmt.specs.declared.schedule.ScheduleErr.{ScheduleErr}
use Rattle.schedule_fmt.specs.declared.schedule.ValueAt.{ValueAt}
use Rattle.schedule_fmt.specs.declared.schedule.ScheduleErr.TheVariants as err
use Rattle.schedule_fmt.specs.Schedules.{HasText, Placed, IsText, IsFaulty}
use Rattle.schedule_fmt.specs.Texts.{Sched, value_text}
use Rattle.schedule_fmt.specs.Views.{schedule_view}

-- # Limits

-- a universe has one value of each type or more, up to the limit
abbrev pub is_universe : ℕ → Bool
is_universe u = nat_lt 0 u && nat_le u (limit_number Universe)

-- the limit that is passed, of two the universe
abbrev pub passed : Sched → Option LimitName
passed s = if is_universe s.universe then (if nat_le (length s.labels) (limit_number Steps) then None else Some Steps) else Some Universe

-- # Answers of `read`

-- what is answered is so
abbrev pub IsAnswer : Prog → List ℕ → Result Schedule ScheduleErr → Type 0
IsAnswer p bytes (Ok s) = IsText p (schedule_view s) bytes × (passed (schedule_view s) ≡ None)
IsAnswer p bytes (Err (err.Line n)) = IsFaulty p bytes n
IsAnswer p bytes (Err (err.Limit which)) = (s : Sched) × IsText p s bytes × (passed s ≡ Some which)
IsAnswer p bytes (Err err.Memory) = Unit {0}

-- the bytes are the text of this schedule: it is the answer, or the limit that it passes, or memory ran out
abbrev pub IsRead : Sched → Result Schedule ScheduleErr → Type 0
IsRead s (Ok found) = (schedule_view found ≡ s) × (passed s ≡ None)
IsRead s (Err (err.Line n)) = ⊥
IsRead s (Err (err.Limit which)) = passed s ≡ Some which
IsRead s (Err err.Memory) = Unit {0}

-- this line is the answer, or memory ran out
abbrev pub IsRefused : ℕ → Result Schedule ScheduleErr → Type 0
IsRefused n (Ok found) = ⊥
IsRefused n (Err (err.Line m)) = m ≡ n
IsRefused n (Err (err.Limit which)) = ⊥
IsRefused n (Err err.Memory) = Unit {0}

-- # Answers of `read_value`

-- the bytes from one place up to the other are the value's text at a place that asks the type
pub record StandsAt (p : Prog) (ty : Ty) (bytes : List ℕ) (from to : ℕ) (v : Val) : Type 0 where
  pub has_text : HasText p v
  pub placed : Placed p (Some ty) v
  pub is : drop from bytes ≡ value_text p v ++ drop to bytes
  pub within : to ≤ length bytes

-- the value that is found is the longest that stands there, and none is found where none stands
abbrev pub IsLongest : Prog → Ty → List ℕ → ℕ → Option ValueAt → Type 0
IsLongest p ty bytes from None = (v : Val) (to : ℕ) → StandsAt p ty bytes from to v → ⊥
IsLongest p ty bytes from (Some found) =
    StandsAt p ty bytes from found.to (value_view found.value) × ((v : Val) (to : ℕ) → StandsAt p ty bytes from to v → to ≤ found.to)
