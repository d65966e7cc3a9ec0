-- The goal of each number.
use Rattle.std.proofs.Common.{◌≡◌, ℕ, zero, suc, ◌-◌, ◌<◌, ◌≤◌, List, [], ◌∷◌, ◌++◌, length, slice_get, All, refl, ap, ◌∙◌, arith, subst}
use Rattle.std.proofs.lemmas.Option.{slice_get_within, slice_get-get_or, get_or_from_slice_get}
use Rattle.event_machine.specs.WellFormed.{At}

-- of two lists one after the other
pub first-part : {A : Type 0} (xs ys : List A) (n : ℕ) → n < length xs → slice_get (xs ++ ys) n ≡ slice_get xs n
first-part [] ys n within = absurd (omega (arith, within))
first-part (x ∷ xs) ys zero within = refl
first-part (x ∷ xs) ys (suc n) within = first-part xs ys n (omega (arith, within))

pub second-part : {A : Type 0} (xs ys : List A) (n : ℕ) → length xs ≤ n → slice_get (xs ++ ys) n ≡ slice_get ys (n - length xs)
second-part [] ys n past =
    let e : n ≡ n - 0 = omega arith in
    ap (slice_get ys) e
second-part (x ∷ xs) ys zero past = absurd (omega (arith, past))
second-part (x ∷ xs) ys (suc n) past =
    let e : n - length xs ≡ suc n - suc (length xs) = omega arith in
    second-part xs ys n (omega (arith, past)) ∙ ap (slice_get ys) e

pub all-by-number : {A : Type 0} (P : A → Type 0) (xs : List A) → ((n : ℕ) (x : A) → At xs n x → P x) → All P xs
all-by-number P xs each = λ n d within. each n _ (slice_get-get_or xs n d within)

pub by-number-all : {A : Type 0} (P : A → Type 0) (xs : List A) → All P xs → (n : ℕ) (x : A) → At xs n x → P x
by-number-all P xs all n x at = subst P (get_or_from_slice_get xs n x x at) (all n x (slice_get_within xs n x at))
