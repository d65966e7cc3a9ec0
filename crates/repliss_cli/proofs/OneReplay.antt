-- A text with bytes of a schedule has one report.
use Rattle.std.proofs.Common.{◌≡◌, ℕ, List, refl, sym, ap, subst, ◌∙◌, arith}
use Rattle.rp_lang.specs.Programs.{Prog}
use Rattle.replay_reports.specs.Replayed.{IsReportOn, report_line, kind_of}
use Rattle.replay_reports.specs.declared.report.Replayed.{Replayed}
use Rattle.repliss_cli.specs.declared.report.Report.{Report}
use Rattle.repliss_cli.specs.declared.report.Report.TheVariants.{NotYet, Schedule}
use Rattle.repliss_cli.specs.ProgramText.{IsProgramText}
use Rattle.repliss_cli.specs.Refusals.{IsRefusalOf}
use Rattle.repliss_cli.specs.Replays.{ending_of, schedule_report, IsReplayOf, refused_text, long_schedule, read_schedule}
use Rattle.repliss_cli.specs.Answers.{IsReportOf}
use Rattle.repliss_cli.proofs.OneReport.{as_report, not_refused, one_program_text}
use Rattle.repliss_cli.proofs.Reports.{one_program}

-- what the laws on reports of texts and of schedules say
pub record Known : Type 0 where
  pub text : (content : List ℕ) (r s : Report) → IsReportOf content r → IsReportOf content s → r ≡ s
  pub line : (text : List ℕ) (p : Prog) (bytes : List ℕ) (a b : Replayed) → IsReportOn p bytes a → IsReportOn p bytes b → report_line text p a ≡ report_line text p b
  pub kind : (p : Prog) (bytes : List ℕ) (a b : Replayed) → IsReportOn p bytes a → IsReportOn p bytes b → kind_of a ≡ kind_of b

same_told : Known → (content bytes : List ℕ) (p q : Prog) (a b : Replayed) → IsProgramText content p → IsProgramText content q → IsReportOn p bytes a → IsReportOn q bytes b
    → schedule_report content p a ≡ schedule_report content q b
same_told k content bytes p q a b text also f g =
    let same : q ≡ p = one_program_text one_program content q p also text in
    let here : IsReportOn p bytes b = subst (λ p. IsReportOn p bytes b) same g in
    ap (λ e. Schedule (ending_of e) (report_line content p a)) (k.kind p bytes a b f here)
    ∙ ap (Schedule (ending_of (kind_of b))) (k.line content p bytes a b f here)
    ∙ ap (λ p. Schedule (ending_of (kind_of b)) (report_line content p b)) (sym same)

pub one_replay : Known → (content bytes : List ℕ) (r s : Report) → IsReplayOf content bytes r → IsReplayOf content bytes s → r ≡ s
one_replay k content bytes r s (refused_text h) (refused_text g) = k.text content r s (as_report content r h) (as_report content s g)
one_replay k content bytes r s (refused_text h) (long_schedule {p = p} text long) = absurd (not_refused one_program content p r text h)
one_replay k content bytes r s (refused_text h) (read_schedule {p = p} a text short is) = absurd (not_refused one_program content p r text h)
one_replay k content bytes r s (long_schedule {p = p} text long) (refused_text h) = absurd (not_refused one_program content p s text h)
one_replay k content bytes r s (long_schedule text long) (long_schedule also more) = refl
one_replay k content bytes r s (long_schedule text long) (read_schedule a also short is) = absurd (omega (arith, long, short))
one_replay k content bytes r s (read_schedule {p = p} a text short is) (refused_text h) = absurd (not_refused one_program content p s text h)
one_replay k content bytes r s (read_schedule a text short is) (long_schedule also long) = absurd (omega (arith, long, short))
one_replay k content bytes r s (read_schedule {p = p} a text short is) (read_schedule {p = q} b also few it) = same_told k content bytes p q a b text also is it

-- it is never that the program isn't taken yet
is_taken : (content bytes : List ℕ) (r : Report) → IsReplayOf content bytes r → r ≡ NotYet → ⊥
is_taken content bytes r (refused_text h) is = subst (IsRefusalOf content) is h
is_taken content bytes r (long_schedule text long) is = cc
is_taken content bytes r (read_schedule a text short it) is = cc

pub taken : (content bytes : List ℕ) → IsReplayOf content bytes NotYet → ⊥
taken content bytes h = is_taken content bytes NotYet h refl
