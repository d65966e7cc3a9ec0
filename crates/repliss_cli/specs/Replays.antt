-- What is told of a schedule, and when.
use Rattle.std.specs.Prelude.{◌≡◌, ℕ, ◌<◌, ◌≤◌, List, length, Option}
use Rattle.rp_lang.specs.declared.limit.LimitName.TheVariants as limit
use Rattle.rp_lang.specs.Programs.{Prog}
use Rattle.rp_io.specs.Sinks.{Puts}
use Rattle.event_machine.specs.Runs.{Outcome, Clean, ViolatedAt, RefusedAt, outcome}
use Rattle.schedule_fmt.specs.Schedules.{IsText}
use Rattle.schedule_fmt.specs.Texts.{Sched}
use Rattle.ending_lines.specs.Endings.{ending_line}
use Rattle.replay_reports.specs.declared.report.Replayed.{Replayed}
use Rattle.replay_reports.specs.Replayed.{Kind, IsClean, IsViolated, IsRefused, IsReportOn, report_line, kind_of}
use Rattle.repliss_cli.specs.declared.report.Ending.{Ending}
use Rattle.repliss_cli.specs.declared.report.Ending.TheVariants as ending
use Rattle.repliss_cli.specs.declared.report.Report.{Report}
use Rattle.repliss_cli.specs.declared.report.Report.TheVariants.{Limit, Schedule}
use Rattle.repliss_cli.specs.declared.report.Status.{Status}
use Rattle.repliss_cli.specs.declared.report.Status.TheVariants.{Fine, Found, Refused}
use Rattle.repliss_cli.specs.ProgramText.{IsProgramText}
use Rattle.repliss_cli.specs.Refusals.{IsRefusalOf}

abbrev pub ending_of : Kind → Ending
ending_of IsClean = ending.Clean
ending_of IsViolated = ending.Violated
ending_of IsRefused = ending.Refused

-- the report of what was replayed
abbrev pub schedule_report : List ℕ → Prog → Replayed → Report
schedule_report content p replayed = Schedule (ending_of (kind_of replayed)) (report_line content p replayed)

-- The cause of a report on a replay, of the bytes of a program's text and those of a schedule. Only the first are read
-- where they are no program's text.
pub data IsReplayOf (content bytes : List ℕ) : Report → Type 0 where
  refused_text : {report : Report} → IsRefusalOf content report → IsReplayOf content bytes report
  long_schedule : {p : Prog} → IsProgramText content p → 4194304 < length bytes → IsReplayOf content bytes (Limit limit.ScheduleBytes)
  read_schedule : {p : Prog} (replayed : Replayed) → IsProgramText content p → length bytes ≤ 4194304 → IsReportOn p bytes replayed
      → IsReplayOf content bytes (schedule_report content p replayed)

-- how a replay is answered that ends so
abbrev pub status_of_end : Outcome → Status
status_of_end (Clean steps) = Fine
status_of_end (ViolatedAt step what) = Found
status_of_end (RefusedAt step why) = Refused

-- The first bytes are a program's text, and the second the text of a schedule for it. How the machine ends on that
-- schedule is what was put, and what the answer says.
pub record IsOutcome (content bytes : List ℕ) (status : Status) (old new : Option (List ℕ)) : Type 0 where
  pub program : Prog
  pub text : IsProgramText content program
  pub schedule : Sched
  pub written : IsText program schedule bytes
  pub put : Puts old new (ending_line content program (outcome program schedule.universe schedule.labels))
  pub answered : status ≡ status_of_end (outcome program schedule.universe schedule.labels)
