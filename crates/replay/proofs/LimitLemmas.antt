-- Which labels of a run meet limits.
use Rattle.std.proofs.Common.{◌≡◌, ℕ, zero, suc, ◌+◌, ◌<◌, ◌≤◌, ◌⊎◌, inl, inr, refl, sym, ap, ◌∙◌, subst, arith, List, [], ◌∷◌, length, take, Some, None, slice_get}
use Rattle.std.proofs.lemmas.Bool.{cases_lt}
use Rattle.std.proofs.lemmas.Option.{slice_get_within}
use Rattle.std.proofs.Math.Nat.{eq-or-lt_of_le}
use borrow.Author.Count.{below_more}
use Rattle.rp_lang.specs.Programs.{Prog}
use Rattle.rp_lang.specs.declared.limit.LimitName.{LimitName}
use Rattle.event_machine.specs.States.{State, Label, What, Why, Answer, Moved, Checked, Violated, Refused}
use Rattle.event_machine.specs.Machine.{step, refusal, effect, unless_refused}
use Rattle.event_machine.specs.Runs.{Leads, Run}
use Rattle.machine_effects.specs.Limits.{limit_of}
use Rattle.replay.specs.Outcomes.{MeetsLimit, IsUnlimited, MeetsNone, IsCause}
use Rattle.replay.specs.declared.replayed.ReplayErr.TheVariants as err

-- # One run

leads_one : (old a b : State) (answer : Answer) → Leads old answer a → Leads old answer b → a ≡ b
leads_one old a b (Moved mid) f g = f ∙ sym g
leads_one old a b Checked f g = f ∙ sym g
leads_one old a b (Violated what) f g = absurd f
leads_one old a b (Refused why) f g = absurd f

run_one : (p : Prog) (old a b : State) (labels : List Label) → Run p old labels a → Run p old labels b → a ≡ b
run_one p old a b [] f g = f ∙ sym g
run_one p old a b (label ∷ labels) (m, f, fs) (n, g, gs) =
    let e : m ≡ n = leads_one old m n (step p old label) f g in
    run_one p n a b labels (subst (λ s. Run p s labels a) e fs) gs

-- a run through labels leads on from each of them
pub Passes : Prog → State → List Label → ℕ → Label → Type 0
Passes p old labels i label = (mid : State) × Run p old (take i labels) mid × ((after : State) × Leads mid (step p mid label) after)

label_is : (a b : Label) → Some a ≡ Some b → a ≡ b
label_is a b h = cc

pub run_through : (p : Prog) (old new : State) (labels : List Label) (i n : ℕ) (label : Label)
    → i < n → slice_get labels i ≡ Some label → Run p old (take n labels) new → Passes p old labels i label
unfolding Passes
run_through p old new [] i n label lt at run = absurd cc
run_through p old new (l ∷ ls) i zero label lt at run = absurd (omega arith)
run_through p old new (l ∷ ls) zero (suc n) label lt at (mid, leads, rest) =
    (old, refl, (mid, subst (λ x. Leads old (step p old x) mid) (label_is l label at) leads))
run_through p old new (l ∷ ls) (suc i) (suc n) label lt at (mid, leads, rest) =
    let later : Passes p mid ls i label = run_through p mid new ls i n label (omega arith) at rest in
    (later.0, (mid, leads, later.1), later.2)

-- # Limits

abbrev pub NotHere : Prog → State → List Label → ℕ → Type 0
NotHere p start labels n = (which : LimitName) → MeetsLimit p start labels n which → ⊥

same_state : (p : Prog) (start s : State) (labels : List Label) (n : ℕ) (which : LimitName) → Run p start (take n labels) s → (m : MeetsLimit p start labels n which) → m.old ≡ s
same_state p start s labels n which run m = run_one p start m.old s (take n labels) m.run run

same_label : (p : Prog) (start : State) (labels : List Label) (n : ℕ) (label : Label) (which : LimitName) → slice_get labels n ≡ Some label → (m : MeetsLimit p start labels n which) → m.label ≡ label
same_label p start labels n label which next m = label_is m.label label (sym m.next ∙ next)

-- what isn't limited, or is refused, meets no limit
pub not_limited : (p : Prog) (start s : State) (labels : List Label) (n : ℕ) (label : Label) → Run p start (take n labels) s → slice_get labels n ≡ Some label
    → limit_of p s label ≡ None → NotHere p start labels n
not_limited p start s labels n label run next free which m =
    let old : m.old ≡ s = same_state p start s labels n which run m in
    let is : m.label ≡ label = same_label p start labels n label which next m in
    let none : limit_of p m.old m.label ≡ None = ap (λ x. limit_of p x m.label) old ∙ ap (limit_of p s) is ∙ free in
    let some = m.limit in
    absurd cc

pub not_refused : (p : Prog) (start s : State) (labels : List Label) (n : ℕ) (label : Label) (why : Why) → Run p start (take n labels) s → slice_get labels n ≡ Some label
    → refusal p s label ≡ Some why → NotHere p start labels n
not_refused p start s labels n label why run next refused which m =
    let old : m.old ≡ s = same_state p start s labels n which run m in
    let is : m.label ≡ label = same_label p start labels n label which next m in
    let some : refusal p m.old m.label ≡ Some why = ap (λ x. refusal p x m.label) old ∙ ap (refusal p s) is ∙ refused in
    let none = m.accepted in
    absurd cc

pub one_more : (p : Prog) (start : State) (labels : List Label) (n : ℕ) → IsUnlimited p start labels n → NotHere p start labels n → IsUnlimited p start labels (n + 1)
one_more p start labels n before here = below_more (λ k. NotHere p start labels k) n before here

pub none_at_end : (p : Prog) (start : State) (labels : List Label) → IsUnlimited p start labels (length labels) → MeetsNone p start labels
none_at_end p start labels before k which m = before k (slice_get_within labels k m.label m.next) which m

-- # Ends

pub Stops : Prog → State → Label → Type 0
Stops p s label = (after : State) → Leads s (step p s label) after → ⊥

-- behind a label that leads nowhere no label meets a limit
none_behind : (p : Prog) (start s : State) (labels : List Label) (n : ℕ) (label : Label) → IsUnlimited p start labels n → NotHere p start labels n
    → Run p start (take n labels) s → slice_get labels n ≡ Some label → Stops p s label → MeetsNone p start labels
unfolding Passes Stops
none_behind p start s labels n label before here run next stops k which m = by (cases_lt k n)
  where
    behind : (n ≡ k) ⊎ (n < k) → ⊥
    behind (inl e) = here which (subst (λ j. MeetsLimit p start labels j which) (sym e) m)
    behind (inr lt) =
        let passed : Passes p start labels n label = run_through p start m.old labels n k label lt next m.run in
        let same : passed.0 ≡ s = run_one p start passed.0 s (take n labels) passed.1 run in
        stops passed.2.0 (subst (λ x. Leads x (step p x label) passed.2.0) same passed.2.1)

    by : (k < n) ⊎ (n ≤ k) → ⊥
    by (inl lt) = before k lt which m
    by (inr le) = behind (eq-or-lt_of_le le)

stops_violated : (p : Prog) (s : State) (label : Label) (what : What) → step p s label ≡ Violated what → Stops p s label
unfolding Stops
stops_violated p s label what is after leads = subst (λ a. Leads s a after) is leads

stops_refused : (p : Prog) (s : State) (label : Label) (why : Why) → refusal p s label ≡ Some why → Stops p s label
unfolding Stops
stops_refused p s label why is after leads = subst (λ o. Leads s (unless_refused o (effect p s label)) after) is leads

pub none_violated : (p : Prog) (start s : State) (labels : List Label) (n : ℕ) (label : Label) (what : What) → IsUnlimited p start labels n
    → Run p start (take n labels) s → slice_get labels n ≡ Some label → limit_of p s label ≡ None → step p s label ≡ Violated what → MeetsNone p start labels
none_violated p start s labels n label what before run next free is =
    none_behind p start s labels n label before (not_limited p start s labels n label run next free) run next (stops_violated p s label what is)

pub none_refused : (p : Prog) (start s : State) (labels : List Label) (n : ℕ) (label : Label) (why : Why) → IsUnlimited p start labels n
    → Run p start (take n labels) s → slice_get labels n ≡ Some label → refusal p s label ≡ Some why → MeetsNone p start labels
none_refused p start s labels n label why before run next is =
    none_behind p start s labels n label before (not_refused p start s labels n label why run next is) run next (stops_refused p s label why is)

-- # The first limit

which_is : (a b : LimitName) → Some a ≡ Some b → a ≡ b
which_is a b h = cc

one_here : (p : Prog) (start : State) (labels : List Label) (n : ℕ) (a b : LimitName) → MeetsLimit p start labels n a → MeetsLimit p start labels n b → a ≡ b
one_here p start labels n a b f g =
    let old : f.old ≡ g.old = same_state p start g.old labels n a g.run f in
    let label : f.label ≡ g.label = same_label p start labels n g.label a g.next f in
    which_is a b (sym f.limit ∙ ap (λ x. limit_of p x f.label) old ∙ ap (limit_of p g.old) label ∙ g.limit)

pub one_limit : (p : Prog) (start : State) (labels : List Label) (a b : LimitName) (n m : ℕ)
    → IsCause p start labels (err.Limit a n) → IsCause p start labels (err.Limit b m) → (a ≡ b) × (n ≡ m)
one_limit p start labels a b n m (i, at, f, before) (j, at', g, before') = by (cases_lt i j)
  where
    same : (j ≡ i) ⊎ (j < i) → (a ≡ b) × (n ≡ m)
    same (inl e) = (one_here p start labels i a b f (subst (λ k. MeetsLimit p start labels k b) e g), omega arith)
    same (inr lt) = absurd (before j lt b g)

    by : (i < j) ⊎ (j ≤ i) → (a ≡ b) × (n ≡ m)
    by (inl lt) = absurd (before' i lt a f)
    by (inr le) = same (eq-or-lt_of_le le)
