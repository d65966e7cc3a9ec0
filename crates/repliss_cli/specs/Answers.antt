-- When each answer of the program may come, and what is put.
use Rattle.std.specs.Prelude.{◌≡◌, ◌≢◌, ◌⊎◌, ℕ, ◌+◌, ◌<◌, List, [], ◌∷◌, length, Contains, Option, IfSome, IsSome, slice_get}
use Rattle.std.specs.Option.{option_map_or}
use Rattle.std.specs.declared.option.Option.TheVariants.{None, Some}
use Rattle.rp_lang.specs.FirstForm.{IsFirstForm}
use Rattle.rp_lang.specs.Programs.{Prog}
use Rattle.rp_io.specs.Files.{Contents, content_of}
use Rattle.rp_io.specs.Sinks.{Puts, PutsPrefix}
use Rattle.event_machine.specs.Runs.{IsSafe}
use Rattle.rp_span.specs.Places.{place_of}
use Rattle.rp_verify.specs.Verdicts.{IsWithinLimits}
use Rattle.event_machine.specs.Goals.{Goal, goals, path, IsFalseGoal}
use Rattle.repliss_cli.specs.declared.report.GoalLine.{GoalLine}
use Rattle.repliss_cli.specs.declared.report.Report.{Report}
use Rattle.repliss_cli.specs.declared.report.Report.TheVariants.{Verified, Unproved, Usage, NotYet}
use Rattle.repliss_cli.specs.declared.report.Status.{Status}
use Rattle.repliss_cli.specs.declared.report.Status.TheVariants.{ReadFault, WriteFault, NoMemory}
use Rattle.repliss_cli.specs.Texts.{report_text, status_of}
use Rattle.repliss_cli.specs.Words.{Words, Command, Verify, Replay, asked, named, program_file}
use Rattle.repliss_cli.specs.ProgramText.{IsProgramText, IsSomeProgram}
use Rattle.repliss_cli.specs.FirstText.{IsFirstText}
use Rattle.repliss_cli.specs.Refusals.{IsRefusalOf}
use Rattle.repliss_cli.specs.Replays.{IsReplayOf}

-- ---- the causes of reports of `verify`

-- The bytes are a text of the first form whose program is safe in every run of the machine, and it has so many goals.
pub record IsVerified (content : List ℕ) (count : ℕ) : Type 0 where
  pub program : Prog
  pub text : IsFirstText content program
  pub safe : IsSafe program
  pub counts : count ≡ length (goals program)

-- the name of the procedure of that number
abbrev pub name_at : Prog → ℕ → List ℕ
name_at p k = option_map_or (λ q. q.name) (slice_get p.procs k) []

-- the line of a goal with its number
abbrev pub line_of : List ℕ → Prog → ℕ → Goal → GoalLine
line_of content p n goal = record { goal = n; proc = name_at p goal.proc; path = path goal; at = place_of content goal.at.from }

-- The lines are those of exactly the false goals among these, in order. The goals are numbered from n on.
pub data NameFalse (content : List ℕ) (p : Prog) : ℕ → List Goal → List GoalLine → Type 0 where
  no_goal : {n : ℕ} → NameFalse content p n [] []
  false_goal : {n : ℕ} {goal : Goal} {goals : List Goal} {lines : List GoalLine}
      → IsFalseGoal goal → NameFalse content p (n + 1) goals lines → NameFalse content p n (goal ∷ goals) (line_of content p n goal ∷ lines)
  other_goal : {n : ℕ} {goal : Goal} {goals : List Goal} {lines : List GoalLine}
      → ¬ IsFalseGoal goal → NameFalse content p (n + 1) goals lines → NameFalse content p n (goal ∷ goals) lines

-- The bytes are a text of the first form of which some goal is false, and the lines name exactly its false goals, in order.
pub record IsUnproved (content : List ℕ) (count : ℕ) (lines : List GoalLine) : Type 0 where
  pub program : Prog
  pub text : IsFirstText content program
  pub named : NameFalse content program 1 (goals program) lines
  pub some : lines ≢ []
  pub counts : count ≡ length (goals program)

-- The bytes are the text of a program, and not of the first form.
pub record IsOtherText (content : List ℕ) : Type 0 where
  pub program : Prog
  pub text : IsProgramText content program
  -- it isn't over truth values, or has too many paths or goals
  pub other : IsFirstForm program → IsWithinLimits program → ⊥

-- the cause of the report on what `verify` finds in these bytes
abbrev pub IsReportOf : List ℕ → Report → Type 0
IsReportOf content (Verified count) = IsVerified content count
IsReportOf content (Unproved count lines) = IsUnproved content count lines
IsReportOf content NotYet = IsOtherText content
IsReportOf content report = IsRefusalOf content report

-- ---- from the words on

-- the content of a file is such: that which the files tell, or, where they don't, some content
abbrev pub OnContent : Option (List ℕ) → (List ℕ → Type 0) → Type 0
OnContent None P = (content : List ℕ) × P content
OnContent (Some content) P = P content

-- what the command finds, of the content of the program's file
abbrev pub IsReportFrom : List ℕ → Option Contents → Command → Report → Type 0
IsReportFrom content told (Verify file) report = IsReportOf content report
IsReportFrom content told (Replay file schedule) report = OnContent (content_of told schedule) (λ bytes. IsReplayOf content bytes report)

-- what is told of a command, and the usage where none is asked
abbrev pub IsReportFor : Option Command → Option Contents → Report → Type 0
IsReportFor None told report = report ≡ Usage
IsReportFor (Some command) told report = OnContent (content_of told (program_file command)) (λ content. IsReportFrom content told command report)

-- The report's cause stands: other words than a command's, or the contents of the files that they name.
abbrev pub HasCause : Words → Option Contents → Report → Type 0
HasCause words told report = IsReportFor (asked words) told report

-- the files tell the contents of those that are named
abbrev pub AreTold : Words → Option Contents → Type 0
AreTold words told = (file : List ℕ) → Contains (named words) file → IsSome (content_of told file)

-- A file that is read isn't one that the files call sound: that of the program, or, behind a program's text, that of the schedule.
abbrev pub ReadsUnsound : Option Command → Option Contents → List (List ℕ) → Type 0
ReadsUnsound None told sound = ⊥
ReadsUnsound (Some (Verify file)) told sound = Contains sound file → ⊥
ReadsUnsound (Some (Replay file schedule)) told sound =
    (Contains sound file → ⊥) ⊎ ((Contains sound schedule → ⊥) × OnContent (content_of told file) IsSomeProgram)

-- ---- what is put

-- What is answered and put is this report, unless a file or the sink failed or memory ran out.
abbrev pub Tells : Report → Status → Option (List ℕ) → Option (List ℕ) → Type 0
Tells report ReadFault old new = Unit {0}
Tells report WriteFault old new = Unit {0}
Tells report NoMemory old new = Unit {0}
Tells report status old new = (status ≡ status_of report) × Puts old new (report_text report)

-- The bytes put are those of a report whose cause stands, and the answer is its status.
pub record IsAnswer (words : Words) (told : Option Contents) (status : Status) (old new : Option (List ℕ)) : Type 0 where
  pub report : Report
  pub cause : HasCause words told report
  pub answered : status ≡ status_of report
  pub put : Puts old new (report_text report)

-- A prefix of the bytes of one report whose cause stands was put.
pub record IsCut (words : Words) (told : Option Contents) (old new : Option (List ℕ)) : Type 0 where
  pub report : Report
  pub cause : HasCause words told report
  pub put : PutsPrefix old new (report_text report)

-- The same, where the sink had no room for them, if it tells its room.
pub record IsCutShort (words : Words) (told : Option Contents) (room : Option ℕ) (old new : Option (List ℕ)) : Type 0 where
  pub report : Report
  pub cause : HasCause words told report
  pub put : PutsPrefix old new (report_text report)
  pub no_room : IfSome room (λ n. n < length (report_text report))
