-- Strictly ascending lists.
use Rattle.std.proofs.Common.{◌≡◌, ℕ, zero, suc, ◌+◌, ◌<◌, ◌≤◌, Bool, false, cond, refl, sym, ◌∙◌, ap, subst, arith, List, [], ◌∷◌, length, get_or, inl, inr, nat_eq, Result, Ok, Err, is_ok}
use Rattle.std.proofs.lemmas.Bool.{or_from, eq-eqb, ne_eqb, cases_eq, cases_lt}
use Rattle.std.proofs.lemmas.List.Folds.{list_any_at}
use Rattle.std.proofs.lemmas.List.Sorted.{searched}
use Rattle.std.specs.List.{list_any}
use Rattle.std.specs.List.Sorted.{IsBinarySearchResult, IsStrictlyIncreasing}
use Rattle.std.specs.Result.{MatchResult}
use Rattle.std.specs.Ordering.{nat_cmp}
use Rattle.std.specs.Cmp.{nat_cmp_total}
use Rattle.std.specs.FinSet as set

any_nowhere : (p : ℕ → Bool) (xs : List ℕ) → ((k : ℕ) → k < length xs → p (get_or xs k 0) ≡ false) → list_any p xs ≡ false
any_nowhere p [] h = refl
any_nowhere p (x ∷ xs) h = or_from (p x) _ (h 0 (omega arith)) (any_nowhere p xs (λ k lt. h (suc k) (omega arith)))

step : (xs : List ℕ) → IsStrictlyIncreasing xs → (k j : ℕ) → j ≡ k + 1 → j < length xs → get_or xs k 0 < get_or xs j 0
step xs up k j e lt = subst (λ n. get_or xs k 0 < get_or xs n 0) (sym e) (up k (omega arith))

tail_up : (x : ℕ) (xs : List ℕ) → IsStrictlyIncreasing (x ∷ xs) → IsStrictlyIncreasing xs
tail_up x xs up k lt = step (x ∷ xs) up (suc k) (suc (k + 1)) (omega arith) (omega arith)

-- each number is below all later ones
pub ahead : (xs : List ℕ) → IsStrictlyIncreasing xs → (i j : ℕ) → i < j → j < length xs → get_or xs i 0 < get_or xs j 0
ahead xs up i zero lt in_xs = absurd (omega arith)
ahead xs up i (suc j) lt in_xs =
    let next : get_or xs j 0 < get_or xs (suc j) 0 = step xs up j (suc j) (omega arith) in_xs in
    elim (cases_eq i j) [
      | inl same ↦ let e : get_or xs i 0 ≡ get_or xs j 0 = ap (λ k. get_or xs k 0) same in omega arith
      | inr other ↦ let h : get_or xs i 0 < get_or xs j 0 = ahead xs up i j (omega arith) (omega arith) in omega arith
    ]

rising : (xs : List ℕ) → IsStrictlyIncreasing xs → (i j : ℕ) → i ≤ j → j < length xs → get_or xs i 0 ≤ get_or xs j 0
rising xs up i j le lt =
    elim (cases_eq i j) [
      | inl same ↦ let e : get_or xs i 0 ≡ get_or xs j 0 = ap (λ k. get_or xs k 0) same in omega arith
      | inr other ↦ let h : get_or xs i 0 < get_or xs j 0 = ahead xs up i j (omega arith) lt in omega arith
    ]

by_result : (xs : List ℕ) (x : ℕ) (r : Result ℕ ℕ) → MatchResult r (λ i. (i < length xs) × (get_or xs i 0 ≡ x)) (λ i. (i ≤ length xs) × ((k : ℕ) → k < i → get_or xs k 0 < x) × ((k : ℕ) → i ≤ k → k < length xs → x < get_or xs k 0)) → is_ok r ≡ list_any (λ b. nat_eq b x) xs
by_result xs x (Ok i) h = sym (list_any_at (λ b. nat_eq b x) xs i 0 h.0 (eq-eqb _ x h.1))
by_result xs x (Err i) h =
    sym (any_nowhere (λ b. nat_eq b x) xs (λ k lt. ne_eqb (get_or xs k 0) x (λ e.
    elim (cases_lt k i) [
      | inl before ↦ let less : get_or xs k 0 < x = h.1 k before in absurd (omega arith)
      | inr after ↦ let more : x < get_or xs k 0 = h.2 k after lt in absurd (omega arith)
    ])))

pub listed_is : (xs : List ℕ) (x : ℕ) (r : Result ℕ ℕ) → IsStrictlyIncreasing xs → IsBinarySearchResult (λ y. nat_cmp y x) xs r → is_ok r ≡ list_any (λ b. nat_eq b x) xs
listed_is xs x r up h = by_result xs x r (searched xs x r h (rising xs up))

not_ahead : (x : ℕ) (xs : List ℕ) → IsStrictlyIncreasing (x ∷ xs) → list_any (λ y. nat_eq y x) xs ≡ false
not_ahead x xs up = any_nowhere (λ y. nat_eq y x) xs (λ k lt. ne_eqb (get_or xs k 0) x (λ e. let h : x < get_or xs k 0 = ahead (x ∷ xs) up 0 (suc k) (omega arith) (omega arith) in absurd (omega arith)))

pub len_from_ascending : (xs : List ℕ) → IsStrictlyIncreasing xs → set.len (set.from_list {R = nat_cmp} xs) ≡ length xs
len_from_ascending [] up = set.len-empty nat_cmp
len_from_ascending (x ∷ xs) up =
    let rest : set.len (set.from_list {R = nat_cmp} xs) ≡ length xs = len_from_ascending xs (tail_up x xs up) in
    let new : set.contains (set.from_list {R = nat_cmp} xs) x ≡ false = set.contains-from_list_nat xs x ∙ not_ahead x xs up in
    let more : set.len (set.insert (set.from_list {R = nat_cmp} xs) x) ≡ set.len (set.from_list {R = nat_cmp} xs) + 1 = set.len-insert nat_cmp_total (set.from_list xs) x ∙ ap (λ b. cond b (set.len (set.from_list {R = nat_cmp} xs)) (set.len (set.from_list {R = nat_cmp} xs) + 1)) new in
    more ∙ omega arith
