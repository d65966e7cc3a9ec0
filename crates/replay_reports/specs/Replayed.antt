-- What is told of the text of a schedule, and what has to be so.
use Rattle.std.specs.Prelude.{◌≡◌, ℕ, List, ◌++◌, Some, None, codes, decimal}
use Rattle.rp_lang.specs.Programs.{Prog}
use Rattle.rp_lang.specs.Limits.{limit_text, limit_number}
use Rattle.rp_lang.specs.declared.limit.LimitName.{LimitName}
use Rattle.event_machine.specs.Runs as runs
use Rattle.event_machine.specs.States.{empty}
use Rattle.schedule_fmt.specs.Answers.{passed}
use Rattle.schedule_fmt.specs.Schedules.{IsText, IsFaulty}
use Rattle.schedule_fmt.specs.Texts.{Sched}
use Rattle.replay.specs.Outcomes.{outcome_view, MeetsNone, IsCause}
use Rattle.replay.specs.declared.replayed.ReplayErr.TheVariants as err
use Rattle.ending_lines.specs.Endings.{ending_line, limit_line}
use Rattle.replay_reports.specs.declared.report.Replayed.{Replayed}
use Rattle.replay_reports.specs.declared.report.Replayed.TheVariants.{Ended, FaultyLine, Limit, StepLimit}

-- how the machine ends on the schedule, and no step meets a limit; or the first step that meets one
abbrev pub IsEndOf : Prog → Sched → Replayed → Type 0
IsEndOf p s (Ended end) = (outcome_view end ≡ runs.outcome p s.universe s.labels) × MeetsNone p (empty s.universe) s.labels
IsEndOf p s (StepLimit which step) = IsCause p (empty s.universe) s.labels (err.Limit which step)
IsEndOf p s (FaultyLine n) = ⊥
IsEndOf p s (Limit which) = ⊥

-- the bytes are the text of a schedule within its limits, and this is how it ends
abbrev pub EndsText : Prog → List ℕ → Replayed → Type 0
EndsText p bytes report = (s : Sched) × IsText p s bytes × (passed s ≡ None) × IsEndOf p s report

-- the cause of each report
abbrev pub IsReportOn : Prog → List ℕ → Replayed → Type 0
IsReportOn p bytes (Ended end) = EndsText p bytes (Ended end)
IsReportOn p bytes (StepLimit which step) = EndsText p bytes (StepLimit which step)
IsReportOn p bytes (FaultyLine n) = IsFaulty p bytes n
IsReportOn p bytes (Limit which) = (s : Sched) × IsText p s bytes × (passed s ≡ Some which)

-- # Lines

abbrev pub faulty_line : ℕ → List ℕ
faulty_line n = codes "refused: schedule line " ++ (decimal n ++ codes "\n")

abbrev pub passed_line : LimitName → List ℕ
passed_line which = codes "refused: limit " ++ (limit_text which ++ (codes " " ++ (decimal (limit_number which) ++ codes "\n")))

abbrev pub report_line : List ℕ → Prog → Replayed → List ℕ
report_line text p (Ended end) = ending_line text p (outcome_view end)
report_line text p (FaultyLine n) = faulty_line n
report_line text p (Limit which) = passed_line which
report_line text p (StepLimit which step) = limit_line which step

-- # Kinds

-- whether it is clean, violated or refused
pub data Kind : Type 0 where
  IsClean : Kind
  IsViolated : Kind
  IsRefused : Kind

abbrev pub kind_of_end : runs.Outcome → Kind
kind_of_end (runs.Clean steps) = IsClean
kind_of_end (runs.ViolatedAt step what) = IsViolated
kind_of_end (runs.RefusedAt step why) = IsRefused

abbrev pub kind_of : Replayed → Kind
kind_of (Ended end) = kind_of_end (outcome_view end)
kind_of (FaultyLine n) = IsRefused
kind_of (Limit which) = IsRefused
kind_of (StepLimit which step) = IsRefused
