-- Each text with bytes of a schedule has some report.
use Rattle.std.proofs.Common.{◌≡◌, ℕ, ◌+◌, ◌<◌, ◌≤◌, List, length, Option, Some, None, refl, ◌⊎◌, inl, inr}
use Rattle.std.specs.Prelude.{Result, Ok, Err}
use Rattle.rp_lang.specs.Programs.{Prog}
use Rattle.rp_lang.specs.declared.limit.LimitName.{LimitName}
use Rattle.rp_lang.specs.declared.limit.LimitName.TheVariants as limit
use Rattle.event_machine.specs.States.{empty}
use Rattle.event_machine.specs.Runs as runs
use Rattle.schedule_fmt.specs.Answers.{passed}
use Rattle.schedule_fmt.specs.Schedules.{IsText}
use Rattle.schedule_fmt.specs.Texts.{Sched}
use Rattle.schedule_fmt.specs.means.Reading.{schedule}
use Rattle.replay.specs.Outcomes.{MeetsNone}
use Rattle.schedule_fmt.proofs.Faults.{schedule_sound, schedule_faulty}
use Rattle.replay_reports.specs.Replayed.{IsReportOn}
use Rattle.replay_reports.specs.declared.report.Replayed.{Replayed}
use Rattle.replay_reports.specs.declared.report.Replayed.TheVariants as replayed
use Rattle.repliss_cli.specs.declared.report.Report.{Report}
use Rattle.repliss_cli.specs.declared.report.Report.TheVariants.{Verified, Unproved, Usage, Lex, Syntax, Limit, Rule, NotYet, Schedule}
use Rattle.repliss_cli.specs.ProgramText.{IsProgramText}
use Rattle.repliss_cli.specs.Replays.{schedule_report, IsReplayOf, refused_text, long_schedule, read_schedule}
use Rattle.repliss_cli.specs.Answers.{IsReportOf}
use Rattle.repliss_cli.proofs.Readings.{short_or_long}
use Rattle.repliss_cli.proofs.FirstLimits.{MeetsFirst, decided, is_cause}
use Rattle.repliss_cli.proofs.Ends.{some_end}

-- ---- what is told of a schedule

of_run : (p : Prog) (bytes : List ℕ) (s : Sched) → IsText p s bytes → passed s ≡ None
    → MeetsNone p (empty s.universe) s.labels ⊎ MeetsFirst p (empty s.universe) s.labels → (r : Replayed) × IsReportOn p bytes r
of_run p bytes s text within (inl none) =
    let (o, is) = some_end (runs.outcome p s.universe s.labels) in
    (replayed.Ended o, (s, text, within, (is, none)))
of_run p bytes s text within (inr (which, n, m, free)) =
    (replayed.StepLimit which (n + 1), (s, text, within, is_cause p (empty s.universe) s.labels which n m free))

of_limits : (p : Prog) (bytes : List ℕ) (s : Sched) → IsText p s bytes → (o : Option LimitName) → passed s ≡ o → (r : Replayed) × IsReportOn p bytes r
of_limits p bytes s text (Some which) past = (replayed.Limit which, (s, text, past))
of_limits p bytes s text None within = of_run p bytes s text within (decided p s.labels (empty s.universe))

of_schedule : (p : Prog) (bytes : List ℕ) (r : Result Sched ℕ) → schedule p bytes ≡ r → (r : Replayed) × IsReportOn p bytes r
of_schedule p bytes (Ok s) is = of_limits p bytes s (schedule_sound p bytes s is) (passed s) refl
of_schedule p bytes (Err n) is = (replayed.FaultyLine n, schedule_faulty p bytes n is)

some_replayed : (p : Prog) (bytes : List ℕ) → (r : Replayed) × IsReportOn p bytes r
some_replayed p bytes = of_schedule p bytes (schedule p bytes) refl

-- ---- reports

of_size : (content bytes : List ℕ) (p : Prog) → IsProgramText content p → (4194304 < length bytes) ⊎ (length bytes ≤ 4194304) → (r : Report) × IsReplayOf content bytes r
of_size content bytes p text (inl long) = (Limit limit.ScheduleBytes, long_schedule text long)
of_size content bytes p text (inr short) = let (r, is) = some_replayed p bytes in (schedule_report content p r, read_schedule r text short is)

of_program : (content bytes : List ℕ) (p : Prog) → IsProgramText content p → (r : Report) × IsReplayOf content bytes r
of_program content bytes p text = of_size content bytes p text (short_or_long (length bytes) 4194304)

-- what is told of the text decides whether the schedule is read
of_report : (content bytes : List ℕ) (r : Report) → IsReportOf content r → (r : Report) × IsReplayOf content bytes r
of_report content bytes (Verified n) h = of_program content bytes h.program h.text.text
of_report content bytes (Unproved n lines) h = of_program content bytes h.program h.text.text
of_report content bytes Usage h = absurd h
of_report content bytes (Lex f pos) h = (Lex f pos, refused_text h)
of_report content bytes (Syntax pos) h = (Syntax pos, refused_text h)
of_report content bytes (Limit l) h = (Limit l, refused_text h)
of_report content bytes (Rule rule pos) h = (Rule rule pos, refused_text h)
of_report content bytes NotYet h = of_program content bytes h.program h.text
of_report content bytes (Schedule ending line) h = absurd h

pub some_replay : ((content : List ℕ) → (r : Report) × IsReportOf content r) → (content bytes : List ℕ) → (r : Report) × IsReplayOf content bytes r
some_replay some content bytes = let (r, is) = some content in of_report content bytes r is
