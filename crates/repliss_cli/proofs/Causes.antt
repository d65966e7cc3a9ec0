-- Causes of reports, from what was read.
use Rattle.std.proofs.Common.{◌≡◌, ℕ, ◌+◌, ◌<◌, List, [], length, sym, subst, arith, replicate}
use Rattle.std.specs.declared.option.Option.{Option}
use Rattle.std.specs.declared.option.Option.TheVariants.{None, Some}
use Rattle.std.specs.Prelude.{IfSome}
use Rattle.std.proofs.lemmas.List.{length-replicate}
use Rattle.rp_io.specs.Files.{Contents, content_of}
use Rattle.rp_lang.specs.declared.limit.LimitName.TheVariants as limit
use Rattle.rp_lang.specs.Programs.{Prog}
use Rattle.repliss_cli.specs.declared.report.Report.{Report}
use Rattle.repliss_cli.specs.declared.report.Report.TheVariants.{Limit}
use Rattle.repliss_cli.specs.Words.{Words, Command, Verify, Replay, asked, program_file}
use Rattle.repliss_cli.specs.ProgramText.{IsProgramText}
use Rattle.repliss_cli.specs.Refusals.{IsRefusalOf, past_bytes}
use Rattle.repliss_cli.specs.Replays.{IsReplayOf, refused_text, long_schedule}
use Rattle.repliss_cli.specs.Answers.{OnContent, IsReportFrom, IsReportFor, HasCause}
use Rattle.repliss_cli.proofs.OneReport.{as_report}

-- what holds of the bytes that were read holds of the content
pub on_content : (found : Option (List ℕ)) (content : List ℕ) (P : List ℕ → Type 0) → IfSome found (λ c. content ≡ c) → P content → OnContent found P
on_content None content P same h = (content, h)
on_content (Some c) content P same h = subst P same h

-- some bytes are longer
longer : (n : ℕ) → (bytes : List ℕ) × (n < length bytes)
longer n = (replicate (n + 1) 0, omega (arith, length-replicate {A = ℕ} (n + 1) 0))

-- what holds of all longer bytes holds of a content that is longer
on_longer : (n : ℕ) (found : Option (List ℕ)) (P : List ℕ → Type 0) → IfSome found (λ c. n < length c) → ((c : List ℕ) → n < length c → P c) → OnContent found P
on_longer n None P h f = let (c, long) = longer n in (c, f c long)
on_longer n (Some c) P h f = f c h

-- what holds of all bytes
on_any : (found : Option (List ℕ)) (P : List ℕ → Type 0) → ((c : List ℕ) → P c) → OnContent found P
on_any None P f = ([], f [])
on_any (Some c) P f = f c

-- a schedule that is too long
pub long_cause : (content : List ℕ) (p : Prog) (found : Option (List ℕ)) → IsProgramText content p → IfSome found (λ c. 4194304 < length c)
    → OnContent found (λ bytes. IsReplayOf content bytes (Limit limit.ScheduleBytes))
long_cause content p found text h = on_longer 4194304 found (λ bytes. IsReplayOf content bytes (Limit limit.ScheduleBytes)) h (λ bytes long. long_schedule text long)

-- what refuses the text is told of each command
pub refusal_cause : (content : List ℕ) (told : Option Contents) (command : Command) (r : Report) → IsRefusalOf content r → IsReportFrom content told command r
refusal_cause content told (Verify file) r h = as_report content r h
refusal_cause content told (Replay file schedule) r h = on_any (content_of told schedule) (λ bytes. IsReplayOf content bytes r) (λ bytes. refused_text h)

has_cause : (words : Words) (told : Option Contents) (command : Command) (r : Report) → asked words ≡ Some command → IsReportFor (Some command) told r → HasCause words told r
has_cause words told command r is h = subst (λ a. IsReportFor a told r) (sym is) h

-- the report on what was read of the program's file
pub content_cause : (words : Words) (told : Option Contents) (command : Command) (content : List ℕ) (r : Report)
    → asked words ≡ Some command → IfSome (content_of told (program_file command)) (λ c. content ≡ c) → IsReportFrom content told command r → HasCause words told r
content_cause words told command content r is same h =
    has_cause words told command r is (on_content (content_of told (program_file command)) content (λ content. IsReportFrom content told command r) same h)

pub too_long_cause : (words : Words) (told : Option Contents) (command : Command)
    → asked words ≡ Some command → IfSome (content_of told (program_file command)) (λ c. 262144 < length c) → HasCause words told (Limit limit.ProgramBytes)
too_long_cause words told command is h =
    has_cause words told command (Limit limit.ProgramBytes) is
    (on_longer 262144 (content_of told (program_file command)) (λ content. IsReportFrom content told command (Limit limit.ProgramBytes)) h
    (λ content long. refusal_cause content told command (Limit limit.ProgramBytes) (past_bytes long)))
