-- Lists whose members differ, and the numbers that go up one by one.
use Rattle.std.proofs.Common.{◌≡◌, ◌+◌, ◌<◌, ℕ, zero, suc, Bool, true, false, not, List, [], ◌∷◌, length, Some, refl, ap, subst, sym, ◌∙◌, cond, arith, inl, inr}
use Rattle.std.specs.Prelude.{nat_eq, slice_get}
use Rattle.std.specs.List.{AllByRecursion, IsDistinct, filter, list_any, list_all}
use Rattle.std.proofs.lemmas.Bool.{and_from, eqb-true, eq-eqb, ne_eqb, not-true, or_cases, or_left, or_parts, or_right, true≢false}
use Rattle.std.proofs.lemmas.Map.Keys.{IsDistinct-head, IsDistinct-tail, IsDistinct-cons}
use Rattle.rp_lang.specs.Typing.{is_among}
use Rattle.desugaring.specs.Tables.{up_from}
use Rattle.lawful.proofs.Forms.{one}

-- # Members by their places

-- what holds of each holds of the member at a place
pub at_place : {X : Type 0} (P : X → Type 0) (xs : List X) (i : ℕ) (x : X) → AllByRecursion P xs → slice_get xs i ≡ Some x → P x
at_place P [] i x all is = absurd cc
at_place P (y ∷ ys) zero x all is = subst P (one is) all.0
at_place P (y ∷ ys) (suc i) x all is = at_place P ys i x all.1 is

-- where one passes, it stands somewhere
pub any_place : {X : Type 0} (test : X → Bool) (xs : List X) → list_any test xs ≡ true → (i : ℕ) × (x : X) × (slice_get xs i ≡ Some x) × (test x ≡ true)
any_place test [] e = absurd cc
any_place {X} test (x ∷ xs) e = elim (or_cases (test x) (list_any test xs) e) [
  | inl h ↦ (0, x, refl, h)
  | inr h ↦ let r = any_place test xs h in (suc r.0, r.1, r.2, r.3)
]

pub place_any : {X : Type 0} (test : X → Bool) (xs : List X) (i : ℕ) (x : X) → slice_get xs i ≡ Some x → test x ≡ true → list_any test xs ≡ true
place_any test [] i x is e = absurd cc
place_any test (y ∷ ys) zero x is e = or_left _ _ (subst (λ z. test z ≡ true) (sym (one is)) e)
place_any test (y ∷ ys) (suc i) x is e = or_right _ _ (place_any test ys i x is e)

-- # Lists whose members differ

pub no_members : {X : Type 0} (e : X → X → Bool) → IsDistinct e []
unfolding IsDistinct
no_members e = tt

pub unique : {X : Type 0} (e : X → X → Bool) (xs : List X) (i j : ℕ) (a b : X) → IsDistinct e xs → slice_get xs i ≡ Some a → slice_get xs j ≡ Some b
    → e a b ≡ true → e b a ≡ true → i ≡ j
unique e [] i j a b d is also same flip = absurd cc
unique e (x ∷ xs) zero zero a b d is also same flip = refl
unique e (x ∷ xs) zero (suc j) a b d is also same flip =
    let apart : e a b ≡ false = at_place (λ y. e a y ≡ false) xs j b (subst (λ z. AllByRecursion (λ y. e z y ≡ false) xs) (one is) (IsDistinct-head e x xs d)) also in
    absurd (true≢false (sym same ∙ apart))
unique e (x ∷ xs) (suc i) zero a b d is also same flip =
    let apart : e b a ≡ false = at_place (λ y. e b y ≡ false) xs i a (subst (λ z. AllByRecursion (λ y. e z y ≡ false) xs) (one also) (IsDistinct-head e x xs d)) is in
    absurd (true≢false (sym flip ∙ apart))
unique e (x ∷ xs) (suc i) (suc j) a b d is also same flip = ap suc (unique e xs i j a b (IsDistinct-tail e x xs d) is also same flip)

-- those that pass a test
all_kept : {X : Type 0} (P : X → Type 0) (p : X → Bool) (xs : List X) → AllByRecursion P xs → AllByRecursion P (filter p xs)
all_kept P p [] all = tt
all_kept P p (x ∷ xs) all = by_test P p x xs (p x) all.0 (all_kept P p xs all.1) where
  by_test : {X : Type 0} (P : X → Type 0) (p : X → Bool) (x : X) (xs : List X) (holds : Bool) → P x → AllByRecursion P (filter p xs)
      → AllByRecursion P (cond holds (x ∷ filter p xs) (filter p xs))
  by_test P p x xs true here rest = (here, rest)
  by_test P p x xs false here rest = rest

pub all_pass : {X : Type 0} (p : X → Bool) (xs : List X) → AllByRecursion (λ x. p x ≡ true) (filter p xs)
all_pass p [] = tt
all_pass p (x ∷ xs) = by_test p x xs (p x) refl (all_pass p xs) where
  by_test : {X : Type 0} (p : X → Bool) (x : X) (xs : List X) (holds : Bool) → p x ≡ holds → AllByRecursion (λ x. p x ≡ true) (filter p xs)
      → AllByRecursion (λ x. p x ≡ true) (cond holds (x ∷ filter p xs) (filter p xs))
  by_test p x xs true is rest = (is, rest)
  by_test p x xs false is rest = rest

pub distinct_kept : {X : Type 0} (e : X → X → Bool) (p : X → Bool) (xs : List X) → IsDistinct e xs → IsDistinct e (filter p xs)
distinct_kept e p [] d = no_members e
distinct_kept e p (x ∷ xs) d =
    by_test e p x xs (p x) (all_kept (λ y. e x y ≡ false) p xs (IsDistinct-head e x xs d)) (distinct_kept e p xs (IsDistinct-tail e x xs d)) where
      by_test : {X : Type 0} (e : X → X → Bool) (p : X → Bool) (x : X) (xs : List X) (holds : Bool) → AllByRecursion (λ y. e x y ≡ false) (filter p xs)
          → IsDistinct e (filter p xs) → IsDistinct e (cond holds (x ∷ filter p xs) (filter p xs))
      by_test e p x xs true here rest = IsDistinct-cons e x (filter p xs) here rest
      by_test e p x xs false here rest = rest

pub all_changed : {X : Type 0} (P Q : X → Type 0) (xs : List X) → ((x : X) → P x → Q x) → AllByRecursion P xs → AllByRecursion Q xs
all_changed P Q [] f all = tt
all_changed P Q (x ∷ xs) f all = (f x all.0, all_changed P Q xs f all.1)

-- without those that equal it, a member differs from all that are left
pub distinct_without : {X : Type 0} (e : X → X → Bool) (x : X) (xs : List X) → IsDistinct e xs → IsDistinct e (x ∷ filter (λ y. not (e x y)) xs)
distinct_without e x xs d =
    IsDistinct-cons e x _ (all_changed (λ y. not (e x y) ≡ true) (λ y. e x y ≡ false) _ (λ y h. not-true _ h) (all_pass (λ y. not (e x y)) xs))
    (distinct_kept e (λ y. not (e x y)) xs d)

-- # Each new where it comes

-- each is none of those before it, nor of these
abbrev pub Fresh : {X : Type 0} → (X → X → Bool) → List X → List X → Type 0
Fresh e before [] = Unit {0}
Fresh e before (x ∷ xs) = (list_any (e x) before ≡ false) × Fresh e (x ∷ before) xs

pub fresh_parts : {X : Type 0} (e : X → X → Bool) (x : X) (before xs : List X) → AllByRecursion (λ y. list_any (e y) (x ∷ before) ≡ false) xs
    → AllByRecursion (λ y. e y x ≡ false) xs × AllByRecursion (λ y. list_any (e y) before ≡ false) xs
fresh_parts e x before [] all = (tt, tt)
fresh_parts e x before (y ∷ ys) all =
    let p = or_parts (e y x) (list_any (e y) before) all.0 in
    let r = fresh_parts e x before ys all.1 in
    ((p.0, r.0), (p.1, r.1))

pub fresh_distinct : {X : Type 0} (e : X → X → Bool) (before xs : List X) → Fresh e before xs
    → AllByRecursion (λ y. list_any (e y) before ≡ false) xs × IsDistinct (λ x y. e y x) xs
fresh_distinct e before [] all = (tt, no_members (λ x y. e y x))
fresh_distinct e before (x ∷ xs) all =
    let r = fresh_distinct e (x ∷ before) xs all.1 in
    let p = fresh_parts e x before xs r.0 in
    ((all.0, p.1), IsDistinct-cons (λ x y. e y x) x xs p.0 r.1)

-- # Numbers from one on

pub up_in : (s m q : ℕ) → is_among q (up_from s m) ≡ true → (i : ℕ) × (i < m) × (q ≡ s + i)
up_in s zero q e = absurd cc
up_in s (suc m) q e = elim (or_cases (nat_eq q s) (is_among q (up_from (s + 1) m)) e) [
  | inl h ↦ let same : q ≡ s = eqb-true q s h in (0, omega arith, omega (arith, same))
  | inr h ↦ let r = up_in (s + 1) m q h in (suc r.0, omega (arith, r.1), omega (arith, r.2))
]

pub up_at : (s m i : ℕ) → i < m → is_among (s + i) (up_from s m) ≡ true
up_at s zero i lt = absurd (omega (arith, lt))
up_at s (suc m) zero lt = or_left _ _ (eq-eqb (s + 0) s (omega arith))
up_at s (suc m) (suc i) lt =
    let same : s + 1 + i ≡ s + suc i = omega arith in
    or_right _ _ (subst (λ q. is_among q (up_from (s + 1) m) ≡ true) same (up_at (s + 1) m i (omega (arith, lt))))

pub up_all : (P : ℕ → Bool) (s m : ℕ) → ((i : ℕ) → i < m → P (s + i) ≡ true) → list_all P (up_from s m) ≡ true
up_all P s zero h = refl
up_all P s (suc m) h =
    let here : s + 0 ≡ s = omega arith in
    and_from _ _ (subst (λ q. P q ≡ true) here (h 0 (omega arith))) (up_all P (s + 1) m (λ i lt.
    let same : s + suc i ≡ s + 1 + i = omega arith in subst (λ q. P q ≡ true) same (h (suc i) (omega (arith, lt)))))

up_apart : (s r m : ℕ) → s < r → AllByRecursion (λ y. nat_eq s y ≡ false) (up_from r m)
up_apart s r zero lt = tt
up_apart s r (suc m) lt = (ne_eqb s r (λ e. omega (arith, lt, e)), up_apart s (r + 1) m (omega (arith, lt)))

pub up_distinct : (s m : ℕ) → IsDistinct nat_eq (up_from s m)
up_distinct s zero = no_members nat_eq
up_distinct s (suc m) = IsDistinct-cons nat_eq s (up_from (s + 1) m) (up_apart s (s + 1) m (omega arith)) (up_distinct (s + 1) m)

pub up_length : (s m : ℕ) → length (up_from s m) ≡ m
up_length s zero = refl
up_length s (suc m) = ap suc (up_length (s + 1) m)
