-- A schedule, one label at a time.
use Rattle.std.proofs.Common.{◌≡◌, ℕ, ◌+◌, refl, sym, ap, ◌∙◌, subst, arith, List, [], ◌∷◌, ◌++◌, length, take, drop, get_or, Some, None, slice_get}
use Rattle.std.proofs.lemmas.List.{drop_more, take_more, drop_all}
use Rattle.std.proofs.lemmas.Option.{slice_get_within, slice_get-get_or}
use Rattle.rp_lang.specs.Programs.{Prog}
use Rattle.rp_lang.specs.declared.limit.LimitName.{LimitName}
use Rattle.event_machine.specs.States.{State, Label, What, Why, Answer, Moved, Checked, Violated, Refused}
use Rattle.event_machine.specs.Machine.{step, refusal, effect, unless_refused}
use Rattle.event_machine.specs.Runs.{Leads, Run, Clean, ViolatedAt, RefusedAt, outcome_from, goes_on}
use Rattle.machine_effects.specs.Limits.{limit_of}
use Rattle.replay.specs.Outcomes.{IsUnlimited, MeetsNone, IsCause}
use Rattle.replay.specs.declared.replayed.ReplayErr.TheVariants as err
use Rattle.replay.proofs.LimitLemmas.{not_limited, one_more, none_at_end, none_violated, none_refused}

-- the labels before place i are a run to this state, none of them met a limit, and those from there on end as all do
pub record Walks (p : Prog) (start : State) (labels : List Label) (i : ℕ) (s : State) : Type 0 where
  pub ends : outcome_from p i s (drop i labels) ≡ outcome_from p 0 start labels
  pub run : Run p start (take i labels) s
  pub free : IsUnlimited p start labels i

pub started : (p : Prog) (start : State) (labels : List Label) → Walks p start labels 0 start
started p start labels = record { ends = refl; run = refl; free = λ k lt which m. absurd (omega arith) }

-- # One label further

label_is : (a b : Label) → Some a ≡ Some b → a ≡ b
label_is a b h = cc

here : (labels : List Label) (i : ℕ) (label : Label) → slice_get labels i ≡ Some label → get_or labels i label ≡ label
here labels i label next = label_is (get_or labels i label) label (sym (slice_get-get_or labels i label (slice_get_within labels i label next)) ∙ next)

dropped : (labels : List Label) (i : ℕ) (label : Label) → slice_get labels i ≡ Some label → drop i labels ≡ label ∷ drop (i + 1) labels
dropped labels i label next =
    drop_more labels i label (slice_get_within labels i label next) ∙ ap (λ l. l ∷ drop (i + 1) labels) (here labels i label next)

taken : (labels : List Label) (i : ℕ) (label : Label) → slice_get labels i ≡ Some label → take (i + 1) labels ≡ take i labels ++ label ∷ []
taken labels i label next =
    take_more labels i label (slice_get_within labels i label next) ∙ ap (λ l. take i labels ++ l ∷ []) (here labels i label next)

run_end : (p : Prog) (old mid new : State) (labels : List Label) (label : Label) → Run p old labels mid → Leads mid (step p mid label) new → Run p old (labels ++ label ∷ []) new
run_end p old mid new [] label is leads = (new, subst (λ s. Leads s (step p s label) new) is leads, refl)
run_end p old mid new (l ∷ labels) label run leads = (run.0, run.1, run_end p run.0 mid new labels label run.2 leads)

answer_goes : (p : Prog) (n : ℕ) (s new : State) (labels : List Label) (answer : Answer) → Leads s answer new
    → goes_on answer (n + 1) s (λ mid. outcome_from p (n + 1) mid labels) ≡ outcome_from p (n + 1) new labels
answer_goes p n s new labels (Moved mid) leads = ap (λ m. outcome_from p (n + 1) m labels) (sym leads)
answer_goes p n s new labels Checked leads = ap (λ m. outcome_from p (n + 1) m labels) (sym leads)
answer_goes p n s new labels (Violated what) leads = absurd leads
answer_goes p n s new labels (Refused why) leads = absurd leads

-- what stands there is the label and those behind it
ends_here : (p : Prog) (start : State) (labels : List Label) (i : ℕ) (s : State) (label : Label) → Walks p start labels i s → slice_get labels i ≡ Some label
    → outcome_from p i s (label ∷ drop (i + 1) labels) ≡ outcome_from p 0 start labels
ends_here p start labels i s label w next = ap (outcome_from p i s) (sym (dropped labels i label next)) ∙ w.ends

pub goes : (p : Prog) (start : State) (labels : List Label) (i : ℕ) (s new : State) (label : Label) → Walks p start labels i s → slice_get labels i ≡ Some label
    → limit_of p s label ≡ None → Leads s (step p s label) new → Walks p start labels (i + 1) new
goes p start labels i s new label w next within leads = record {
  ends = sym (answer_goes p i s new (drop (i + 1) labels) (step p s label) leads) ∙ ends_here p start labels i s label w next;
  run = subst (λ ls. Run p start ls new) (sym (taken labels i label next)) (run_end p start s new (take i labels) label w.run leads);
  free = one_more p start labels i w.free (not_limited p start s labels i label w.run next within);
}

-- # Ends

pub violated : (p : Prog) (start : State) (labels : List Label) (i : ℕ) (s : State) (label : Label) (what : What) → Walks p start labels i s → slice_get labels i ≡ Some label
    → limit_of p s label ≡ None → step p s label ≡ Violated what → (ViolatedAt (i + 1) what ≡ outcome_from p 0 start labels) × MeetsNone p start labels
violated p start labels i s label what w next within is = (
  sym (ap (λ a. goes_on a (i + 1) s (λ mid. outcome_from p (i + 1) mid (drop (i + 1) labels))) is) ∙ ends_here p start labels i s label w next,
  none_violated p start s labels i label what w.free w.run next within is,
)

pub refused : (p : Prog) (start : State) (labels : List Label) (i : ℕ) (s : State) (label : Label) (why : Why) → Walks p start labels i s → slice_get labels i ≡ Some label
    → refusal p s label ≡ Some why → (RefusedAt (i + 1) why ≡ outcome_from p 0 start labels) × MeetsNone p start labels
refused p start labels i s label why w next is = (
  sym (ap (λ o. goes_on (unless_refused o (effect p s label)) (i + 1) s (λ mid. outcome_from p (i + 1) mid (drop (i + 1) labels))) is) ∙ ends_here p start labels i s label w next,
  none_refused p start s labels i label why w.free w.run next is,
)

pub limited : (p : Prog) (start : State) (labels : List Label) (i : ℕ) (s : State) (label : Label) (which : LimitName) → Walks p start labels i s → slice_get labels i ≡ Some label
    → refusal p s label ≡ None → limit_of p s label ≡ Some which → IsCause p start labels (err.Limit which (i + 1))
limited p start labels i s label which w next accepted limit =
    (i, refl, record { old = s; label = label; run = w.run; next = next; accepted = accepted; limit = limit }, w.free)

pub ended : (p : Prog) (start : State) (labels : List Label) (i : ℕ) (s : State) → Walks p start labels i s → i ≡ length labels
    → (Clean i ≡ outcome_from p 0 start labels) × MeetsNone p start labels
ended p start labels i s w is = (
  sym (ap (outcome_from p i s) (drop_all i labels (omega arith))) ∙ w.ends,
  none_at_end p start labels (subst (IsUnlimited p start labels) is w.free),
)
