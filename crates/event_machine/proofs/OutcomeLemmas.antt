-- Runs and outcomes speak of the same steps.
use Rattle.std.proofs.Common.{◌≡◌, ℕ, ◌+◌, ◌≤◌, List, [], ◌∷◌, ◌++◌, refl, sym, ◌∙◌, ap, subst}
use Rattle.rp_lang.specs.Programs.{Prog}
use Rattle.event_machine.specs.Machine.{State, Label, What, Answer, Moved, Checked, Violated, Refused, empty, step}
use Rattle.event_machine.specs.Runs.{Leads, Run, Violates, IsSafe, Clean, ViolatedAt, goes_on, outcome_from, outcome}

-- a run from a state, and a label that violates after it
abbrev pub Shows : Prog → State → Type 0
Shows p s = (labels : List Label) × (new : State) × (label : Label) × Run p s labels new × Violates (step p new label)

-- a run that goes on from what the first label leads to
after : (p : Prog) (s : State) (label : Label) (mid : State) → Leads s (step p s label) mid → Shows p mid → Shows p s
after p s label mid leads (labels, new, last, run, violates) = (label ∷ labels, new, last, (mid, leads, run), violates)

pub shown : (p : Prog) (n : ℕ) (s : State) (labels : List Label) (at : ℕ) (what : What) → outcome_from p n s labels ≡ ViolatedAt at what → Shows p s
shown p n s [] at what e = cc
shown p n s (label ∷ labels) at what e = go (λ mid. shown p (n + 1) mid labels at what) (step p s label) refl e
  where
    go : ((mid : State) → outcome_from p (n + 1) mid labels ≡ ViolatedAt at what → Shows p mid)
        → (answer : Answer) → step p s label ≡ answer → goes_on answer (n + 1) s (λ mid. outcome_from p (n + 1) mid labels) ≡ ViolatedAt at what → Shows p s
    go rest (Moved mid) is e = after p s label mid (subst (λ a. Leads s a mid) (sym is) refl) (rest mid e)
    go rest Checked is e = after p s label s (subst (λ a. Leads s a s) (sym is) refl) (rest s e)
    go rest (Violated found) is e = ([], s, label, refl, (found, is))
    go rest (Refused why) is e = cc

abbrev pub Told : Prog → ℕ → State → List Label → What → Type 0
Told p n s labels what = (at : ℕ) × (outcome_from p n s labels ≡ ViolatedAt at what)

pub told : (p : Prog) (n : ℕ) (s : State) (labels : List Label) (new : State) (label : Label) (what : What)
    → Run p s labels new → step p new label ≡ Violated what → Told p n s (labels ++ label ∷ []) what
told p n s [] new label what run is =
    (n + 1, ap (λ a. goes_on a (n + 1) s (λ mid. Clean (n + 1))) (ap (λ s. step p s label) (sym run) ∙ is))
told p n s (first ∷ labels) new label what (mid, leads, run) is =
    go (told p (n + 1) mid labels new label what run is) (step p s first) leads
  where
    go : Told p (n + 1) mid (labels ++ label ∷ []) what → (answer : Answer) → Leads s answer mid
        → (at : ℕ) × (goes_on answer (n + 1) s (λ mid. outcome_from p (n + 1) mid (labels ++ label ∷ [])) ≡ ViolatedAt at what)
    go (at, e) (Moved next) leads = (at, ap (λ s. outcome_from p (n + 1) s (labels ++ label ∷ [])) (sym leads) ∙ e)
    go (at, e) Checked leads = (at, ap (λ s. outcome_from p (n + 1) s (labels ++ label ∷ [])) (sym leads) ∙ e)
    go t (Violated found) leads = absurd leads
    go t (Refused why) leads = absurd leads

abbrev pub NeverViolated : Prog → Type 0
NeverViolated p = (universe : ℕ) (labels : List Label) (at : ℕ) (what : What) → 1 ≤ universe → outcome p universe labels ≡ ViolatedAt at what → ⊥

pub never_violated : (p : Prog) → IsSafe p → NeverViolated p
unfolding IsSafe
never_violated p safe universe labels at what one e =
    let s = shown p 0 (empty universe) labels at what e in safe universe s.0 s.1 s.2 one s.3 s.4

pub safe_from_outcomes : (p : Prog) → NeverViolated p → IsSafe p
unfolding IsSafe
safe_from_outcomes p never universe labels s label one run (what, is) =
    let t = told p 0 (empty universe) labels s label what run is in never universe (labels ++ label ∷ []) t.0 what one t.1
