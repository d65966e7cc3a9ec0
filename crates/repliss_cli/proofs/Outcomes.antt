-- A replay that is fine or found is how the machine ends.
use Rattle.std.proofs.Common.{◌≡◌, ℕ, List, refl, sym, ap, subst, ◌∙◌, ◌⊎◌, inl, inr}
use Rattle.std.specs.declared.option.Option.{Option}
use Rattle.std.specs.declared.option.Option.TheVariants.{Some}
use Rattle.rp_io.specs.Files.{Contents, content_of}
use Rattle.rp_io.specs.Sinks.{Puts}
use Rattle.rp_lang.specs.Programs.{Prog}
use Rattle.event_machine.specs.Runs as runs
use Rattle.ending_lines.specs.Endings.{ending_line}
use Rattle.replay.specs.Outcomes.{outcome_view}
use Rattle.replay_reports.specs.Replayed.{IsReportOn, kind_of_end}
use Rattle.replay_reports.specs.declared.report.Replayed.{Replayed}
use Rattle.replay_reports.specs.declared.report.Replayed.TheVariants as replayed
use Rattle.repliss_cli.specs.declared.report.Report.{Report}
use Rattle.repliss_cli.specs.declared.report.Report.TheVariants.{Verified, Unproved, Usage, Lex, Syntax, Limit, Rule, NotYet, Schedule}
use Rattle.repliss_cli.specs.declared.report.Status.{Status}
use Rattle.repliss_cli.specs.declared.report.Status.TheVariants.{Fine, Found, Refused, WriteFault, NoMemory}
use Rattle.repliss_cli.specs.Words.{Words, Replay, asked}
use Rattle.repliss_cli.specs.Texts.{report_text, status_of, status_of_ending}
use Rattle.repliss_cli.specs.ProgramText.{IsProgramText}
use Rattle.repliss_cli.specs.Refusals.{IsRefusalOf}
use Rattle.repliss_cli.specs.Replays.{ending_of, schedule_report, IsReplayOf, refused_text, long_schedule, read_schedule, status_of_end, IsOutcome}
use Rattle.repliss_cli.specs.Answers.{OnContent, IsReportFor, HasCause}

-- fine or found
abbrev Ends : Status → Type 0
Ends status = (status ≡ Fine) ⊎ (status ≡ Found)

not_refused : (status : Status) → Ends status → status ≡ Refused → ⊥
not_refused status (inl fine) is = let both : Fine ≡ Refused = sym fine ∙ is in cc
not_refused status (inr found) is = let both : Found ≡ Refused = sym found ∙ is in cc

not_cut : (status : Status) → Ends status → status ≡ WriteFault → ⊥
not_cut status (inl fine) is = let both : Fine ≡ WriteFault = sym fine ∙ is in cc
not_cut status (inr found) is = let both : Found ≡ WriteFault = sym found ∙ is in cc

not_short : (status : Status) → Ends status → status ≡ NoMemory → ⊥
not_short status (inl fine) is = let both : Fine ≡ NoMemory = sym fine ∙ is in cc
not_short status (inr found) is = let both : Found ≡ NoMemory = sym found ∙ is in cc

refusals_refuse : (content : List ℕ) (r : Report) → IsRefusalOf content r → status_of r ≡ Refused
refusals_refuse content (Verified n) h = absurd h
refusals_refuse content (Unproved n lines) h = absurd h
refusals_refuse content Usage h = absurd h
refusals_refuse content (Lex f pos) h = refl
refusals_refuse content (Syntax pos) h = refl
refusals_refuse content (Limit l) h = refl
refusals_refuse content (Rule rule pos) h = refl
refusals_refuse content NotYet h = absurd h
refusals_refuse content (Schedule ending line) h = absurd h

same_status : (o : runs.Outcome) → status_of_ending (ending_of (kind_of_end o)) ≡ status_of_end o
same_status (runs.Clean steps) = refl
same_status (runs.ViolatedAt step what) = refl
same_status (runs.RefusedAt step why) = refl

-- what was replayed is an end
of_replayed : (content bytes : List ℕ) (p : Prog) (status : Status) (old new : Option (List ℕ)) (r : Replayed) → IsProgramText content p → IsReportOn p bytes r
    → Ends status → status ≡ status_of (schedule_report content p r) → Puts old new (report_text (schedule_report content p r)) → IsOutcome content bytes status old new
of_replayed content bytes p status old new (replayed.Ended e) text (s, written, within, (ends, none)) done is put = record {
  program = p;
  text = text;
  schedule = s;
  written = written;
  put = subst (λ o. Puts old new (ending_line content p o)) ends put;
  answered = is ∙ same_status (outcome_view e) ∙ ap status_of_end ends;
}
of_replayed content bytes p status old new (replayed.FaultyLine n) text h done is put = absurd (not_refused status done is)
of_replayed content bytes p status old new (replayed.Limit which) text h done is put = absurd (not_refused status done is)
of_replayed content bytes p status old new (replayed.StepLimit which step) text h done is put = absurd (not_refused status done is)

of_replay : (content bytes : List ℕ) (status : Status) (old new : Option (List ℕ)) (r : Report) → IsReplayOf content bytes r
    → Ends status → status ≡ status_of r → Puts old new (report_text r) → IsOutcome content bytes status old new
of_replay content bytes status old new r (refused_text h) done is put = absurd (not_refused status done (is ∙ refusals_refuse content r h))
of_replay content bytes status old new r (long_schedule text long) done is put = absurd (not_refused status done is)
of_replay content bytes status old new r (read_schedule {p = p} a text short h) done is put = of_replayed content bytes p status old new a text h done is put

-- what is told of a replay of these contents
replay_cause : (words : Words) (told : Option Contents) (file schedule content bytes : List ℕ) (r : Report) → asked words ≡ Some (Replay file schedule)
    → content_of told file ≡ Some content → content_of told schedule ≡ Some bytes → HasCause words told r → IsReplayOf content bytes r
replay_cause words told file schedule content bytes r asks of_file of_schedule h =
    let for : IsReportFor (Some (Replay file schedule)) told r = subst (λ a. IsReportFor a told r) asks h in
    let from : OnContent (content_of told schedule) (λ bytes. IsReplayOf content bytes r) =
    subst (λ o. OnContent o (λ content. OnContent (content_of told schedule) (λ bytes. IsReplayOf content bytes r))) of_file for in
    subst (λ o. OnContent o (λ bytes. IsReplayOf content bytes r)) of_schedule from

pub outcome_put : (words : Words) (told : Option Contents) (status : Status) (old new : Option (List ℕ)) (made : Report) (file schedule content bytes : List ℕ)
    → HasCause words told made → ((status ≡ WriteFault → ⊥) → (status ≡ NoMemory → ⊥) → (status ≡ status_of made) × Puts old new (report_text made))
    → asked words ≡ Some (Replay file schedule) → content_of told file ≡ Some content → content_of told schedule ≡ Some bytes
    → Ends status → IsOutcome content bytes status old new
outcome_put words told status old new made file schedule content bytes cause whole asks of_file of_schedule done =
    let put = whole (not_cut status done) (not_short status done) in
    of_replay content bytes status old new made (replay_cause words told file schedule content bytes made asks of_file of_schedule cause) done put.0 put.1
