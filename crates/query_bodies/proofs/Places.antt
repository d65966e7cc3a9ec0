-- The element at a place of a list that was cut behind it.
use Rattle.std.proofs.Common.{◌≡◌, ℕ, zero, suc, ◌+◌, ◌<◌, min, List, [], ◌∷◌, ◌++◌, length, take, Option, Some, None, MatchOption, slice_get, refl, sym, ap, ◌∙◌, arith}
use Rattle.std.proofs.lemmas.List.{length_push, length-take}

module _ {X : Type 0} where
  last_there : (xs : List X) (x : X) (p : ℕ) → length xs ≡ p → slice_get (xs ++ x ∷ []) p ≡ Some x
  last_there [] x zero e = refl
  last_there [] x (suc p) e = absurd cc
  last_there (y ∷ xs) x zero e = absurd cc
  last_there (y ∷ xs) x (suc p) e = last_there xs x p (omega (arith, e))

  there_in_front : (n : ℕ) (xs : List X) (p : ℕ) → p < n → slice_get (take n xs) p ≡ slice_get xs p
  there_in_front zero xs p lt = absurd (omega (arith, lt))
  there_in_front (suc n) [] p lt = refl
  there_in_front (suc n) (x ∷ xs) zero lt = refl
  there_in_front (suc n) (x ∷ xs) (suc p) lt = there_in_front n xs p (omega (arith, lt))

  as_long : (cut items : List X) (p : ℕ) → cut ≡ take (p + 1) items → p < length items → length cut ≡ p + 1
  as_long cut items p is lt =
      let len : length cut ≡ min (p + 1) (length items) = ap length is ∙ length-take (p + 1) items in
      omega (arith, len, lt)

  pub last_is : (o : Option X) (cut rest items : List X) (p : ℕ) → cut ≡ take (p + 1) items → p < length items
      → MatchOption o ((cut ≡ []) × (rest ≡ [])) (λ last. cut ≡ rest ++ last ∷ []) → o ≡ slice_get items p
  last_is None cut rest items p is lt popped =
      let len = as_long cut items p is lt in
      let none : length cut ≡ 0 = ap length popped.0 in
      absurd (omega (arith, len, none))
  last_is (Some x) cut rest items p is lt popped =
      let len = as_long cut items p is lt in
      let more : length cut ≡ length rest + 1 = ap length popped ∙ length_push rest x in
      let less : length rest ≡ p = omega (arith, len, more) in
      sym (last_there rest x p less) ∙ ap (λ (xs : List X). slice_get xs p) (sym popped)
      ∙ ap (λ (xs : List X). slice_get xs p) is ∙ there_in_front (p + 1) items p (omega arith)
