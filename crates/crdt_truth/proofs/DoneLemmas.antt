-- Lists of the committed calls of invocations.
use Rattle.std.proofs.Common.{◌≡◌, ◌≢◌, ◌<◌, ◌≤◌, ◌+◌, ℕ, zero, suc, Bool, true, false, ◌&&◌, ◌||◌, not, List, [], ◌∷◌, ◌++◌, length, replicate, add-one, refl, ap, sym, subst, ◌∙◌, arith, Option, Some, None, inl, inr, ◌⊎◌}
use Rattle.std.specs.Prelude.{is_some, slice_get, slice_set}
use Rattle.std.specs.List.{list_all}
use Rattle.std.specs.Option.{unwrap_or}
use Rattle.std.proofs.lemmas.Bool.{cases_eq, eq-eqb, false≢true, ne_eqb}
use Rattle.std.proofs.lemmas.List.Folds.{list_all-append}
use Rattle.std.proofs.Math.Path.{fun_ext}
use Rattle.crdt_defs.specs.Counting.{all_below, any_below}
use Rattle.crdt_defs.specs.Parts.{Parts, is_done_by}
use Rattle.crdt_truth.specs.means.Done.{AreThose, AreDone, is_that}

-- # Places of lists

set_here : {X : Type 0} (xs : List X) (i : ℕ) (v w : X) → slice_get (slice_set xs i v) i ≡ Some w → Some v ≡ Some w
set_here [] i v w h = absurd (false≢true (ap is_some h))
set_here (x ∷ xs) zero v w h = h
set_here (x ∷ xs) (suc i) v w h = set_here xs i v w h

set_other : {X : Type 0} (xs : List X) (i j : ℕ) (v : X) → (i ≡ j → ⊥) → slice_get (slice_set xs i v) j ≡ slice_get xs j
set_other [] i j v h = refl
set_other (x ∷ xs) zero zero v h = absurd (h refl)
set_other (x ∷ xs) zero (suc j) v h = refl
set_other (x ∷ xs) (suc i) zero v h = refl
set_other (x ∷ xs) (suc i) (suc j) v h = set_other xs i j v (λ e. h (ap suc e))

place_within : {X : Type 0} (xs : List X) (i : ℕ) (x : X) → slice_get xs i ≡ Some x → i < length xs
place_within [] i x h = absurd (false≢true (ap is_some h))
place_within (y ∷ xs) zero x h = omega arith
place_within (y ∷ xs) (suc i) x h = let less = place_within xs i x h in omega (arith, less)

replicated : {X : Type 0} (n i : ℕ) (x y : X) → slice_get (replicate n x) i ≡ Some y → Some x ≡ Some y
replicated zero i x y h = absurd (false≢true (ap is_some h))
replicated (suc n) zero x y h = h
replicated (suc n) (suc i) x y h = replicated n i x y h

-- # How a list is gathered

those_none : (test : ℕ → Bool) → AreThose test 0 []
those_none test = record { each = λ holds. refl }

swapped : (a b : Bool) → (a && b) ≡ (b && (a && true))
swapped true true = refl
swapped true false = refl
swapped false true = refl
swapped false false = refl

those_more : (test : ℕ → Bool) (n : ℕ) (list : List ℕ) → test n ≡ true → AreThose test n list → AreThose test (n + 1) (list ++ n ∷ [])
those_more test n list met h = record {
  each = λ holds.
      rw add-one
      (ap (λ b. (not b || holds n) && all_below (λ c. not (test c) || holds c) n) met
      ∙ ap (λ b. holds n && b) (h.each holds)
      ∙ swapped (holds n) (list_all holds list)
      ∙ sym (list_all-append holds list (n ∷ [])));
}

those_kept : (test : ℕ → Bool) (n : ℕ) (list : List ℕ) → test n ≡ false → AreThose test n list → AreThose test (n + 1) list
those_kept test n list failed h = record {
  each = λ holds.
      rw add-one
      (ap (λ b. (not b || holds n) && all_below (λ c. not (test c) || holds c) n) failed ∙ h.each holds);
}

some_inj : {X : Type 0} (x y : X) → Some x ≡ Some y → x ≡ y
some_inj x y h = ap (λ o. unwrap_or o x) h

pub done_none : (s : Parts) (many : ℕ) → AreDone s 0 (replicate many [])
done_none s many = record {
  each = λ i list at. subst (AreThose (is_done_by s i) 0) (some_inj [] list (replicated many i [] list at)) (those_none (is_done_by s i));
}

-- a call of invocation j, which has a list
pub done_more : (s : Parts) (n : ℕ) (lists : List (List ℕ)) (one : Option ℕ) (j : ℕ) (old : List ℕ) → AreDone s n lists → ((i : ℕ) → is_done_by s i n ≡ is_that one i) → one ≡ Some j → slice_get lists j ≡ Some old → AreDone s (n + 1) (slice_set lists j (old ++ n ∷ []))
done_more s n lists one j old h is that here = record { each = each }
  where
    each : (i : ℕ) (list : List ℕ) → slice_get (slice_set lists j (old ++ n ∷ [])) i ≡ Some list → AreThose (is_done_by s i) (n + 1) list
    each i list at = by (cases_eq j i)
      where
        by : (j ≡ i) ⊎ (j ≡ i → ⊥) → AreThose (is_done_by s i) (n + 1) list
        by (inl same) =
            let met : is_done_by s i n ≡ true = is i ∙ ap (λ o. is_that o i) that ∙ eq-eqb j i same in
            let there : slice_get lists i ≡ Some old = ap (slice_get lists) (sym same) ∙ here in
            let new : slice_get (slice_set lists i (old ++ n ∷ [])) i ≡ Some list = ap (λ k. slice_get (slice_set lists k (old ++ n ∷ [])) i) (sym same) ∙ at in
            subst (AreThose (is_done_by s i) (n + 1)) (some_inj _ list (set_here lists i (old ++ n ∷ []) list new)) (those_more (is_done_by s i) n old met (h.each i old there))
        by (inr other) =
            let failed : is_done_by s i n ≡ false = is i ∙ ap (λ o. is_that o i) that ∙ ne_eqb j i other in
            those_kept (is_done_by s i) n list failed (h.each i list (sym (set_other lists j i (old ++ n ∷ []) other) ∙ at))

-- a call that isn't committed
pub done_kept : (s : Parts) (n : ℕ) (lists : List (List ℕ)) (one : Option ℕ) → AreDone s n lists → ((i : ℕ) → is_done_by s i n ≡ is_that one i) → one ≡ None → AreDone s (n + 1) lists
done_kept s n lists one h is none = record {
  each = λ i list at. those_kept (is_done_by s i) n list (is i ∙ ap (λ o. is_that o i) none) (h.each i list at);
}

-- a call of an invocation without a list
pub done_past : (s : Parts) (n : ℕ) (lists : List (List ℕ)) (one : Option ℕ) (j : ℕ) → AreDone s n lists → ((i : ℕ) → is_done_by s i n ≡ is_that one i) → one ≡ Some j → length lists ≤ j → AreDone s (n + 1) lists
done_past s n lists one j h is that past = record {
  each = λ i list at.
      let less = place_within lists i list at in
      those_kept (is_done_by s i) n list (is i ∙ ap (λ o. is_that o i) that ∙ ne_eqb j i (λ e. absurd (omega (arith, less, e, past)))) (h.each i list at);
}

-- # What is said by lists

none_false : (test : ℕ → Bool) (n : ℕ) → any_below test n ≡ not (all_below (λ c. not (test c) || false) n)
none_false test zero = refl
none_false test (suc n) = by (test n) (none_false test n)
  where
    by : (b : Bool) → any_below test n ≡ not (all_below (λ c. not (test c) || false) n) → (b || any_below test n) ≡ not ((not b || false) && all_below (λ c. not (test c) || false) n)
    by true h = refl
    by false h = h

pub nobody : (test : ℕ → Bool) (n : ℕ) (list : List ℕ) → AreThose test n list → length list ≡ 0 → any_below test n ≡ false
nobody test n [] h e = none_false test n ∙ ap not (h.each (λ c. false))
nobody test n (x ∷ xs) h e = absurd (omega (arith, e))

pub somebody : (test : ℕ → Bool) (n : ℕ) (list : List ℕ) → AreThose test n list → length list ≢ 0 → any_below test n ≡ true
somebody test n [] h e = absurd (e refl)
somebody test n (x ∷ xs) h e = none_false test n ∙ ap not (h.each (λ c. false))

pub ordered : (before : ℕ → ℕ → Bool) (p q : ℕ → Bool) (n : ℕ) (early late : List ℕ) → AreThose p n early → AreThose q n late → list_all (λ c. list_all (λ d. before c d) late) early ≡ all_below (λ c. not (p c) || all_below (λ d. not (q d) || before c d) n) n
ordered before p q n early late h k =
    ap (λ holds. list_all holds early) (fun_ext (λ c. sym (k.each (before c)))) ∙ sym (h.each (λ c. all_below (λ d. not (q d) || before c d) n))
