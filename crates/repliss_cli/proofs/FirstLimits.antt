-- Of labels one is the first that meets a limit, or none does.
use Rattle.std.proofs.Common.{◌≡◌, ℕ, zero, suc, ◌+◌, ◌⊎◌, inl, inr, refl, sym, ap, ◌∙◌, subst, arith, List, [], ◌∷◌, take, Option, Some, None}
use Rattle.rp_lang.specs.Programs.{Prog}
use Rattle.rp_lang.specs.declared.limit.LimitName.{LimitName}
use Rattle.event_machine.specs.States.{State, Label, Why, Answer, Moved, Checked, Violated, Refused}
use Rattle.event_machine.specs.Machine.{step, refusal, effect, unless_refused}
use Rattle.event_machine.specs.Runs.{Leads, Run}
use Rattle.machine_effects.specs.Limits.{limit_of}
use Rattle.replay.specs.Outcomes.{MeetsLimit, MeetsNone, IsUnlimited, IsCause}
use Rattle.replay.specs.declared.replayed.ReplayErr.TheVariants as err

-- some limit is the first that is met
abbrev pub MeetsFirst : Prog → State → List Label → Type 0
MeetsFirst p start labels = (which : LimitName) × (n : ℕ) × MeetsLimit p start labels n which × IsUnlimited p start labels n

abbrev pub Decided : Prog → State → List Label → Type 0
Decided p start labels = MeetsNone p start labels ⊎ MeetsFirst p start labels

abbrev NotAt : Prog → State → List Label → ℕ → Type 0
NotAt p start labels k = (which : LimitName) → MeetsLimit p start labels k which → ⊥

label_is : {a b : Label} → Some a ≡ Some b → a ≡ b
label_is h = cc

-- ---- the first label

refused_first : (p : Prog) (s : State) (label : Label) (labels : List Label) (why : Why) → refusal p s label ≡ Some why → NotAt p s (label ∷ labels) 0
refused_first p s label labels why refused which m =
    let same : m.old ≡ s = m.run in
    let is : m.label ≡ label = sym (label_is m.next) in
    let some : refusal p m.old m.label ≡ Some why = ap (λ x. refusal p x m.label) same ∙ ap (refusal p s) is ∙ refused in
    let none = m.accepted in
    absurd cc

free_first : (p : Prog) (s : State) (label : Label) (labels : List Label) → limit_of p s label ≡ None → NotAt p s (label ∷ labels) 0
free_first p s label labels free which m =
    let same : m.old ≡ s = m.run in
    let is : m.label ≡ label = sym (label_is m.next) in
    let none : limit_of p m.old m.label ≡ None = ap (λ x. limit_of p x m.label) same ∙ ap (limit_of p s) is ∙ free in
    let some = m.limit in
    absurd cc

limited_first : (p : Prog) (s : State) (label : Label) (labels : List Label) (which : LimitName) → refusal p s label ≡ None → limit_of p s label ≡ Some which
    → MeetsFirst p s (label ∷ labels)
limited_first p s label labels which accepted limit =
    (which, 0, record { old = s; label = label; run = refl; next = refl; accepted = accepted; limit = limit }, λ k lt other m. absurd (omega (arith, lt)))

-- ---- the labels behind it

abbrev Stops : Prog → State → Label → Type 0
Stops p s label = (mid : State) → Leads s (step p s label) mid → ⊥

-- it leads to this state alone
abbrev LeadsTo : Prog → State → Label → State → Type 0
LeadsTo p s label mid = Leads s (step p s label) mid × ((other : State) → Leads s (step p s label) other → other ≡ mid)

stopped : (p : Prog) (s : State) (label : Label) (labels : List Label) → NotAt p s (label ∷ labels) 0 → Stops p s label → MeetsNone p s (label ∷ labels)
stopped p s label labels here stops zero which m = here which m
stopped p s label labels here stops (suc k) which m = let run = m.run in stops run.0 run.1

-- a limit behind the label is met from where that leads
behind : (p : Prog) (s mid : State) (label : Label) (labels : List Label) (k : ℕ) (which : LimitName) → LeadsTo p s label mid
    → MeetsLimit p s (label ∷ labels) (suc k) which → MeetsLimit p mid labels k which
behind p s mid label labels k which leads m =
    let run = m.run in
    let same : run.0 ≡ mid = leads.1 run.0 run.1 in
    record { old = m.old; label = m.label; run = subst (λ x. Run p x (take k labels) m.old) same run.2; next = m.next; accepted = m.accepted; limit = m.limit }

ahead : (p : Prog) (s mid : State) (label : Label) (labels : List Label) (k : ℕ) (which : LimitName) → LeadsTo p s label mid
    → MeetsLimit p mid labels k which → MeetsLimit p s (label ∷ labels) (suc k) which
ahead p s mid label labels k which leads m =
    record { old = m.old; label = m.label; run = (mid, leads.0, m.run); next = m.next; accepted = m.accepted; limit = m.limit }

-- where a label leads on, the labels behind it decide
goes_on : (p : Prog) (s mid : State) (label : Label) (labels : List Label) → NotAt p s (label ∷ labels) 0 → LeadsTo p s label mid
    → Decided p mid labels → Decided p s (label ∷ labels)
goes_on p s mid label labels here leads (inl none) = inl all
  where
    all : MeetsNone p s (label ∷ labels)
    all zero which m = here which m
    all (suc k) which m = none k which (behind p s mid label labels k which leads m)
goes_on p s mid label labels here leads (inr (which, n, m, free)) = inr (which, suc n, ahead p s mid label labels n which leads m, before)
  where
    before : IsUnlimited p s (label ∷ labels) (suc n)
    before zero lt other f = here other f
    before (suc k) lt other f = free k (omega (arith, lt)) other (behind p s mid label labels k other leads f)

-- ---- all labels

leads_to : (p : Prog) (s mid : State) (label : Label) (answer : Answer) → step p s label ≡ answer → Leads s answer mid → ((other : State) → Leads s answer other → other ≡ mid)
    → LeadsTo p s label mid
leads_to p s mid label answer is leads alone = (
  subst (λ a. Leads s a mid) (sym is) leads,
  λ other h. alone other (subst (λ a. Leads s a other) is h),
)

by_answer : (p : Prog) (s : State) (label : Label) (labels : List Label) → NotAt p s (label ∷ labels) 0 → ((mid : State) → Decided p mid labels)
    → (answer : Answer) → step p s label ≡ answer → Decided p s (label ∷ labels)
by_answer p s label labels here rest (Moved mid) is = goes_on p s mid label labels here (leads_to p s mid label (Moved mid) is refl (λ other h. h)) (rest mid)
by_answer p s label labels here rest Checked is = goes_on p s s label labels here (leads_to p s s label Checked is refl (λ other h. h)) (rest s)
by_answer p s label labels here rest (Violated what) is = inl (stopped p s label labels here (λ mid h. subst (λ a. Leads s a mid) is h))
by_answer p s label labels here rest (Refused why) is = inl (stopped p s label labels here (λ mid h. subst (λ a. Leads s a mid) is h))

by_limit : (p : Prog) (s : State) (label : Label) (labels : List Label) → ((mid : State) → Decided p mid labels) → refusal p s label ≡ None
    → (limit : Option LimitName) → limit_of p s label ≡ limit → Decided p s (label ∷ labels)
by_limit p s label labels rest accepted (Some which) limit = inr (limited_first p s label labels which accepted limit)
by_limit p s label labels rest accepted None free = by_answer p s label labels (free_first p s label labels free) rest (step p s label) refl

by_refusal : (p : Prog) (s : State) (label : Label) (labels : List Label) → ((mid : State) → Decided p mid labels)
    → (why : Option Why) → refusal p s label ≡ why → Decided p s (label ∷ labels)
by_refusal p s label labels rest (Some why) refused =
    inl (stopped p s label labels (refused_first p s label labels why refused) (λ mid h. subst (λ o. Leads s (unless_refused o (effect p s label)) mid) refused h))
by_refusal p s label labels rest None accepted = by_limit p s label labels rest accepted (limit_of p s label) refl

no_label : (p : Prog) (s : State) → MeetsNone p s []
no_label p s k which m = let next = m.next in absurd cc

pub decided : (p : Prog) (labels : List Label) (s : State) → Decided p s labels
decided p [] s = inl (no_label p s)
decided p (label ∷ labels) s = by_refusal p s label labels (decided p labels) (refusal p s label) refl

pub is_cause : (p : Prog) (s : State) (labels : List Label) (which : LimitName) (n : ℕ) → MeetsLimit p s labels n which → IsUnlimited p s labels n → IsCause p s labels (err.Limit which (n + 1))
is_cause p s labels which n m free = (n, refl, m, free)
