-- The members of a set below a bound.
use Rattle.std.proofs.Common.{◌≡◌, ℕ, zero, suc, ◌+◌, ◌<◌, Bool, true, false, if◌then◌else◌, refl, sym, subst, add-one, arith, List, [], ◌∷◌, ◌++◌, length, get_or, inl, inr}
use Rattle.std.proofs.lemmas.Bool.{cases_lt}
use Rattle.std.proofs.lemmas.List.{append-nil, get_or_append_left, get_or_push, length_push}
use Rattle.std.specs.List.Sorted.{IsStrictlyIncreasing}
use Rattle.event_machine.specs.Machine.{listed}

pub listed_more : (set : ℕ → Bool) (n : ℕ) → listed set (n + 1) ≡ listed set n ++ (if set n then n ∷ [] else [])
listed_more set n = rw add-one refl

-- ascending numbers below n
pub record AreBelow (xs : List ℕ) (n : ℕ) : Type 0 where
  pub ascending : IsStrictlyIncreasing xs
  pub below : (k : ℕ) → k < length xs → get_or xs k 0 < n

pub push_up : (xs : List ℕ) (n : ℕ) → AreBelow xs n → AreBelow (xs ++ n ∷ []) (suc n)
push_up xs n up =
    let more : length (xs ++ n ∷ []) ≡ length xs + 1 = length_push xs n in
    record {
      ascending = λ k lt. elim (cases_lt (k + 1) (length xs)) [
        | inl inside ↦
            let here : get_or (xs ++ n ∷ []) k 0 ≡ get_or xs k 0 = get_or_append_left xs (n ∷ []) 0 k (omega arith) in
            let next : get_or (xs ++ n ∷ []) (k + 1) 0 ≡ get_or xs (k + 1) 0 = get_or_append_left xs (n ∷ []) 0 (k + 1) inside in
            let rises : get_or xs k 0 < get_or xs (k + 1) 0 = up.ascending k inside in
            let goal : get_or (xs ++ n ∷ []) k 0 < get_or (xs ++ n ∷ []) (k + 1) 0 = omega arith in
            goal
        | inr end ↦
            let here : get_or (xs ++ n ∷ []) k 0 ≡ get_or xs k 0 = get_or_append_left xs (n ∷ []) 0 k (omega arith) in
            let next : get_or (xs ++ n ∷ []) (k + 1) 0 ≡ n = get_or_push xs n 0 (k + 1) (omega arith) in
            let low : get_or xs k 0 < n = up.below k (omega arith) in
            let goal : get_or (xs ++ n ∷ []) k 0 < get_or (xs ++ n ∷ []) (k + 1) 0 = omega arith in
            goal
      ];
      below = λ k lt. elim (cases_lt k (length xs)) [
        | inl inside ↦
            let here : get_or (xs ++ n ∷ []) k 0 ≡ get_or xs k 0 = get_or_append_left xs (n ∷ []) 0 k inside in
            let low : get_or xs k 0 < n = up.below k inside in
            omega arith
        | inr end ↦
            let here : get_or (xs ++ n ∷ []) k 0 ≡ n = get_or_push xs n 0 k (omega arith) in
            omega arith
      ];
    }

wider : (xs : List ℕ) (n : ℕ) → AreBelow xs n → AreBelow xs (suc n)
wider xs n up = record { ascending = up.ascending; below = λ k lt. let low : get_or xs k 0 < n = up.below k lt in omega arith }

step_up : (b : Bool) (xs : List ℕ) (n : ℕ) → AreBelow xs n → AreBelow (xs ++ (if b then n ∷ [] else [])) (suc n)
step_up true xs n up = push_up xs n up
step_up false xs n up = subst (λ ys. AreBelow ys (suc n)) (sym (append-nil xs)) (wider xs n up)

listed_below : (set : ℕ → Bool) (n : ℕ) → AreBelow (listed set n) n
listed_below set zero = record { ascending = λ k lt. absurd (omega arith); below = λ k lt. absurd (omega arith) }
listed_below set (suc n) = step_up (set n) (listed set n) n (listed_below set n)

pub listed_ascends : (set : ℕ → Bool) (n : ℕ) → IsStrictlyIncreasing (listed set n)
listed_ascends set n = (listed_below set n).ascending

pub ascends_as : (xs : List ℕ) (set : ℕ → Bool) (n : ℕ) → xs ≡ listed set n → IsStrictlyIncreasing xs
ascends_as xs set n is = subst IsStrictlyIncreasing (sym is) (listed_ascends set n)
