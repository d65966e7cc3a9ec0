-- Trying all values finds those that refute a goal.
use Rattle.std.proofs.Common.{◌≡◌, ℕ, zero, suc, Bool, true, false, ◌&&◌, ◌||◌, not, List, [], ◌∷◌, length, map, All, refl, sym, ◌∙◌, ap, arith}
use Rattle.std.specs.List.{list_any}
use Rattle.std.proofs.lemmas.List.Folds.{list_any-append}
use Rattle.std.proofs.lemmas.List.Elements.{All-nil, All-cons, All-head, All-tail}
use Rattle.event_machine.specs.Propositions.{truth}
use Rattle.event_machine.specs.Goals.{Choice, Goal, slots_of, IsAsChosen, IsFalseGoal}
use Rattle.event_machine.specs.Tests.{all_values, same_truth, as_chosen, follows, is_false}

pub list_any-map : {A B : Type 0} (p : B → Bool) (f : A → B) (xs : List A) → list_any p (map f xs) ≡ list_any (λ x. p (f x)) xs
list_any-map p f [] = refl
list_any-map p f (x ∷ xs) = ap (λ t. p (f x) || t) (list_any-map p f xs)

either : (x y : Bool) {P : Type 0} → (x || y) ≡ true → (x ≡ true → P) → (y ≡ true → P) → P
either true y h first second = first refl
either false y h first second = second h

all_values-suc : (n : ℕ) (test : List Bool → Bool)
    → list_any test (all_values (suc n)) ≡ (list_any (λ v. test (false ∷ v)) (all_values n) || list_any (λ v. test (true ∷ v)) (all_values n))
all_values-suc n test =
    list_any-append test (map (λ v. false ∷ v) (all_values n)) (map (λ v. true ∷ v) (all_values n))
    ∙ (ap (λ t. t || list_any test (map (λ v. true ∷ v) (all_values n))) (list_any-map test (λ v. false ∷ v) (all_values n))
    ∙ ap (λ t. list_any (λ v. test (false ∷ v)) (all_values n) || t) (list_any-map test (λ v. true ∷ v) (all_values n)))

pub found : (n : ℕ) (test : List Bool → Bool) → list_any test (all_values n) ≡ true → (values : List Bool) × (length values ≡ n) × (test values ≡ true)
found zero test h = either (test []) false h (λ yes. ([], refl, yes)) (λ no. cc)
found (suc n) test h =
    either (list_any (λ v. test (false ∷ v)) (all_values n)) (list_any (λ v. test (true ∷ v)) (all_values n)) (sym (all_values-suc n test) ∙ h)
    (λ yes. let (values, counted, holds) = found n (λ v. test (false ∷ v)) yes in (false ∷ values, omega arith, holds))
    (λ yes. let (values, counted, holds) = found n (λ v. test (true ∷ v)) yes in (true ∷ values, omega arith, holds))

or-right : (x y : Bool) → y ≡ true → (x || y) ≡ true
or-right true y h = refl
or-right false y h = h

pub tried : (n : ℕ) (test : List Bool → Bool) (values : List Bool) → length values ≡ n → test values ≡ true → list_any test (all_values n) ≡ true
tried zero test [] counted h = ap (λ t. t || false) h
tried zero test (b ∷ values) counted h = absurd (omega arith)
tried (suc n) test [] counted h = absurd (omega arith)
tried (suc n) test (false ∷ values) counted h =
    all_values-suc n test
    ∙ ap (λ t. t || list_any (λ v. test (true ∷ v)) (all_values n)) (tried n (λ v. test (false ∷ v)) values (omega arith) h)
tried (suc n) test (true ∷ values) counted h =
    all_values-suc n test
    ∙ or-right (list_any (λ v. test (false ∷ v)) (all_values n)) _ (tried n (λ v. test (true ∷ v)) values (omega arith) h)

-- ---- choices

pub same_truth-equal : (x y : Bool) → same_truth x y ≡ true → y ≡ x
same_truth-equal true y h = h
same_truth-equal false true h = cc
same_truth-equal false false h = refl

pub equal-same_truth : (x y : Bool) → y ≡ x → same_truth x y ≡ true
equal-same_truth true y h = h
equal-same_truth false y h = ap not h

both_true : (x y : Bool) → (x && y) ≡ true → (x ≡ true) × (y ≡ true)
both_true true y h = (refl, h)
both_true false y h = cc

pub followed : (values : List Bool) (choices : List Choice) → follows choices values ≡ true → All (IsAsChosen values) choices
followed values [] h = All-nil (IsAsChosen values)
followed values (choice ∷ choices) h =
    let both = both_true (as_chosen values choice) (follows choices values) h in
    All-cons (IsAsChosen values) choice choices (same_truth-equal choice.holds (truth (slots_of values) choice.condition) both.0) (followed values choices both.1)

pub follows-all : (values : List Bool) (choices : List Choice) → All (IsAsChosen values) choices → follows choices values ≡ true
follows-all values [] all = refl
follows-all values (choice ∷ choices) all =
    ap (λ t. t && follows choices values) (equal-same_truth choice.holds (truth (slots_of values) choice.condition) (All-head (IsAsChosen values) choice choices all))
    ∙ follows-all values choices (All-tail (IsAsChosen values) choice choices all)

not_true : (b : Bool) → not b ≡ true → b ≡ false
not_true true h = cc
not_true false h = refl

pub false_goal : (goal : Goal) → is_false goal ≡ true → IsFalseGoal goal
false_goal goal h =
    let (values, counted, holds) = found goal.params (λ values. follows goal.choices values && not (truth (slots_of values) goal.asserted)) h in
    let both = both_true (follows goal.choices values) (not (truth (slots_of values) goal.asserted)) holds in
    (values, record { counted = counted; followed = followed values goal.choices both.0; broken = not_true _ both.1 })

pub is_false-goal : (goal : Goal) → IsFalseGoal goal → is_false goal ≡ true
is_false-goal goal (values, refutes) =
    tried goal.params (λ values. follows goal.choices values && not (truth (slots_of values) goal.asserted)) values refutes.counted
    (ap (λ t. t && not (truth (slots_of values) goal.asserted)) (follows-all values goal.choices refutes.followed) ∙ ap not refutes.broken)
