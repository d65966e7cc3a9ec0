-- What follows of reads of files that are named.
use Rattle.std.proofs.Common.{◌≡◌, ℕ, ◌≤◌, List, length, sym, subst, inl, inr}
use Rattle.std.specs.declared.option.Option.{Option}
use Rattle.std.specs.declared.option.Option.TheVariants.{Some}
use Rattle.std.specs.Prelude.{Contains, Result, Ok, Err, IfOk, IfSome}
use Rattle.rp_io.specs.Files.{Contents, content_of}
use Rattle.rp_lang.specs.Programs.{Prog}
use Rattle.rp_value.specs.declared.memory.Memory.{Memory}
use Rattle.replay_reports.specs.Replayed.{IsReportOn}
use Rattle.replay_reports.specs.declared.report.Replayed.{Replayed}
use Rattle.repliss_cli.specs.declared.report.Report.{Report}
use Rattle.repliss_cli.specs.declared.sources.Stop.{Stop}
use Rattle.repliss_cli.specs.Words.{Words, Command, Verify, Replay, asked, program_file}
use Rattle.repliss_cli.specs.ProgramText.{IsProgramText, IsSomeProgram}
use Rattle.repliss_cli.specs.Replays.{schedule_report, IsReplayOf, read_schedule}
use Rattle.repliss_cli.specs.Answers.{IsReportFrom, HasCause, ReadsUnsound}
use Rattle.repliss_cli.specs.means.Commands.{IsUnsoundSchedule}
use Rattle.repliss_cli.proofs.Causes.{on_content, content_cause}

-- ---- which file isn't sound

program_unsound_for : (command : Command) (told : Option Contents) (sound : List (List ℕ)) → (Contains sound (program_file command) → ⊥) → ReadsUnsound (Some command) told sound
program_unsound_for (Verify file) told sound h = h
program_unsound_for (Replay file schedule) told sound h = inl h

-- the program's file
pub program_unsound : (words : Words) (told : Option Contents) (command : Command) (sound : List (List ℕ)) → asked words ≡ Some command
    → (Contains sound (program_file command) → ⊥) → ReadsUnsound (asked words) told sound
program_unsound words told command sound is h = subst (λ a. ReadsUnsound a told sound) (sym is) (program_unsound_for command told sound h)

schedule_unsound_for : (command : Command) (told : Option Contents) (sound : List (List ℕ)) (content : List ℕ)
    → IfSome (content_of told (program_file command)) (λ c. content ≡ c) → IsUnsoundSchedule command sound → IsSomeProgram content → ReadsUnsound (Some command) told sound
schedule_unsound_for (Verify file) told sound content same h program = absurd h
schedule_unsound_for (Replay file schedule) told sound content same h program = inr (h, on_content (content_of told file) content IsSomeProgram same program)

-- that of the schedule, behind the program
pub schedule_unsound : (words : Words) (told : Option Contents) (command : Command) (sound now : List (List ℕ)) (content : List ℕ) → asked words ≡ Some command
    → IfSome (content_of told (program_file command)) (λ c. content ≡ c) → now ≡ sound → IsUnsoundSchedule command now → IsSomeProgram content → ReadsUnsound (asked words) told sound
schedule_unsound words told command sound now content is same still h program =
    subst (λ a. ReadsUnsound a told sound) (sym is) (schedule_unsound_for command told sound content same (subst (IsUnsoundSchedule command) still h) program)

-- ---- causes

-- what was replayed is the report
pub replayed_cause : (content bytes : List ℕ) (p : Prog) (a : Replayed) (r : Result Report Memory) → IsProgramText content p → length bytes ≤ 4194304 → IsReportOn p bytes a
    → IfOk r (λ report. report ≡ schedule_report content p a) → IfOk r (IsReplayOf content bytes)
replayed_cause content bytes p a (Ok report) text short is h = subst (IsReplayOf content bytes) (sym h) (read_schedule a text short is)
replayed_cause content bytes p a (Err e) text short is h = h

-- the report on the content that was read is that which the words ask for
pub content_causes : (words : Words) (told now : Option Contents) (command : Command) (content : List ℕ) (r : Result Report Stop)
    → asked words ≡ Some command → IfSome (content_of told (program_file command)) (λ c. content ≡ c) → now ≡ told
    → IfOk r (IsReportFrom content now command) → IfOk r (HasCause words told)
content_causes words told now command content (Ok report) is same still h =
    content_cause words told command content report is same (subst (λ t. IsReportFrom content t command report) still h)
content_causes words told now command content (Err e) is same still h = h
