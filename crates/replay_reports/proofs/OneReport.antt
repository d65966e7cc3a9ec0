-- Of a text one thing is told.
use Rattle.std.proofs.Common.{◌≡◌, ℕ, refl, sym, ap, ◌∙◌, subst, List, Some, None}
use Rattle.rp_lang.specs.Programs.{Prog}
use Rattle.rp_lang.specs.declared.limit.LimitName.{LimitName}
use Rattle.event_machine.specs.Runs as runs
use Rattle.event_machine.specs.States.{State, Label, empty}
use Rattle.schedule_fmt.specs.Answers.{passed}
use Rattle.schedule_fmt.specs.Schedules.{IsText}
use Rattle.schedule_fmt.specs.Texts.{Sched}
use Rattle.schedule_fmt.proofs.Faults.{one_schedule, one_line}
use Rattle.replay.specs.Outcomes.{MeetsNone, IsCause}
use Rattle.replay.specs.declared.replayed.ReplayErr.TheVariants as err
use Rattle.ending_lines.specs.Endings.{ending_line, limit_line}
use Rattle.replay_reports.specs.Replayed.{IsReportOn, report_line, faulty_line, passed_line, kind_of, kind_of_end}
use Rattle.replay_reports.specs.declared.report.Replayed.{Replayed}
use Rattle.replay_reports.specs.declared.report.Replayed.TheVariants.{Ended, FaultyLine, Limit, StepLimit}

-- what the law on first limits says
pub record Known : Type 0 where
  pub one_limit : (p : Prog) (start : State) (labels : List Label) (a b : LimitName) (n m : ℕ)
      → IsCause p start labels (err.Limit a n) → IsCause p start labels (err.Limit b m) → a ≡ b
  pub one_step : (p : Prog) (start : State) (labels : List Label) (a b : LimitName) (n m : ℕ)
      → IsCause p start labels (err.Limit a n) → IsCause p start labels (err.Limit b m) → n ≡ m

abbrev Same : List ℕ → Prog → Replayed → Replayed → Type 0
Same text p a b = (report_line text p a ≡ report_line text p b) × (kind_of a ≡ kind_of b)

some_is : (a b : LimitName) → Some a ≡ Some b → a ≡ b
some_is a b h = cc

-- an end and a limit on one way
not_both : (p : Prog) (bytes : List ℕ) (s t : Sched) (which : LimitName) (step : ℕ) → IsText p s bytes → IsText p t bytes
    → MeetsNone p (empty s.universe) s.labels → IsCause p (empty t.universe) t.labels (err.Limit which step) → ⊥
not_both p bytes s t which step a b none cause =
    let same : s ≡ t = one_schedule p s t bytes a b in
    let here = subst (λ (x : Sched). MeetsNone p (empty x.universe) x.labels) same none in
    here cause.0 which cause.2

within : (p : Prog) (bytes : List ℕ) (s t : Sched) (which : LimitName) → IsText p s bytes → IsText p t bytes → passed s ≡ None → passed t ≡ Some which → ⊥
within p bytes s t which a b none some =
    let same : passed s ≡ passed t = ap passed (one_schedule p s t bytes a b) in
    absurd cc

pub one_report : (k : Known) (text : List ℕ) (p : Prog) (bytes : List ℕ) (a b : Replayed) → IsReportOn p bytes a → IsReportOn p bytes b → Same text p a b
one_report k text p bytes (Ended e) (Ended f) (s, a, _, (end, _)) (t, b, _, (end', _)) =
    let same : s ≡ t = one_schedule p s t bytes a b in
    let ends = end ∙ ap (λ (x : Sched). runs.outcome p x.universe x.labels) same ∙ sym end' in
    (ap (ending_line text p) ends, ap kind_of_end ends)
one_report k text p bytes (Ended e) (StepLimit which step) (s, a, _, (_, none)) (t, b, _, cause) =
    absurd (not_both p bytes s t which step a b none cause)
one_report k text p bytes (Ended e) (FaultyLine n) (s, a, _, _) faulty = absurd (faulty.no_text s a)
one_report k text p bytes (Ended e) (Limit which) (s, a, none, _) (t, b, some) = absurd (within p bytes s t which a b none some)
one_report k text p bytes (StepLimit which step) (Ended e) (t, b, _, cause) (s, a, _, (_, none)) =
    absurd (not_both p bytes s t which step a b none cause)
one_report k text p bytes (StepLimit which step) (StepLimit other place) (s, a, _, cause) (t, b, _, cause') =
    let same : t ≡ s = one_schedule p t s bytes b a in
    let here = subst (λ (x : Sched). IsCause p (empty x.universe) x.labels (err.Limit other place)) same cause' in
    let w : which ≡ other = k.one_limit p (empty s.universe) s.labels which other step place cause here in
    let n : step ≡ place = k.one_step p (empty s.universe) s.labels which other step place cause here in
    (ap (λ x. limit_line x step) w ∙ ap (limit_line other) n, refl)
one_report k text p bytes (StepLimit which step) (FaultyLine n) (s, a, _, _) faulty = absurd (faulty.no_text s a)
one_report k text p bytes (StepLimit which step) (Limit other) (s, a, none, _) (t, b, some) = absurd (within p bytes s t other a b none some)
one_report k text p bytes (FaultyLine n) (Ended e) faulty (s, a, _, _) = absurd (faulty.no_text s a)
one_report k text p bytes (FaultyLine n) (StepLimit which step) faulty (s, a, _, _) = absurd (faulty.no_text s a)
one_report k text p bytes (FaultyLine n) (FaultyLine m) f g = (ap faulty_line (one_line p bytes n m f g), refl)
one_report k text p bytes (FaultyLine n) (Limit which) faulty (s, a, _) = absurd (faulty.no_text s a)
one_report k text p bytes (Limit which) (Ended e) (t, b, some) (s, a, none, _) = absurd (within p bytes s t which a b none some)
one_report k text p bytes (Limit other) (StepLimit which step) (t, b, some) (s, a, none, _) = absurd (within p bytes s t other a b none some)
one_report k text p bytes (Limit which) (FaultyLine n) (s, a, _) faulty = absurd (faulty.no_text s a)
one_report k text p bytes (Limit which) (Limit other) (s, a, some) (t, b, some') =
    (ap passed_line (some_is which other (sym some ∙ ap passed (one_schedule p s t bytes a b) ∙ some')), refl)
