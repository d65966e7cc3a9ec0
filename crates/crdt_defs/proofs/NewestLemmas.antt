-- The first of those with the greatest number, found in one pass.
use Rattle.std.proofs.Common.{◌≡◌, ℕ, zero, suc, ◌+◌, ◌<◌, ◌≤◌, Bool, true, false, ◌&&◌, not, refl, sym, ◌∙◌, ap, add-one, arith, List, length, inl, inr, Option, Some, None, slice_get, nat_lt, if◌then◌else◌}
use Rattle.std.proofs.lemmas.Bool.{and_left, and_right, and_from, cases_eq, cases_Bool, ltb-true, ltb-false, lt-ltb, le-ltb, not_from_true, not_from_false, true≢false}
use Rattle.rp_lang.specs.declared.op.OpDecl.{OpDecl}
use Rattle.rp_lang.specs.declared.op.OpKind.TheVariants.{Assign}
use Rattle.crdt_defs.specs.Calls.{Call}
use Rattle.crdt_defs.specs.Counting.{any_below, first_below, or_this}
use Rattle.crdt_defs.specs.Doing.{is_of}
use Rattle.crdt_defs.specs.Meaning.{among, stamp_of, latest}
use Rattle.crdt_defs.specs.means.Newest.{better}
use Rattle.crdt_defs.proofs.BelowLemmas.{any_found, none_below}

abbrev pub newest_below : (ℕ → Bool) → (ℕ → ℕ) → ℕ → Option ℕ
newest_below A st zero = None
newest_below A st (suc n) = if A n then better st (newest_below A st n) n else newest_below A st n

pub newest_more : (A : ℕ → Bool) (st : ℕ → ℕ) (n : ℕ) → newest_below A st (n + 1) ≡ (if A n then better st (newest_below A st n) n else newest_below A st n)
newest_more A st n = rw add-one refl

-- b is the first of the greatest below n, or there is none
pub record IsFirst (A : ℕ → Bool) (st : ℕ → ℕ) (n b : ℕ) : Type 0 where
  pub below : b < n
  pub itself : A b ≡ true
  pub greatest : (k : ℕ) → k < n → A k ≡ true → st k ≤ st b
  pub first : (k : ℕ) → k < b → A k ≡ true → st k < st b

abbrev pub IsBest : (ℕ → Bool) → (ℕ → ℕ) → ℕ → Option ℕ → Type 0
IsBest A st n None = (k : ℕ) → k < n → A k ≡ false
IsBest A st n (Some b) = IsFirst A st n b

more_none : (A : ℕ → Bool) (st : ℕ → ℕ) (n : ℕ) → A n ≡ false → (o : Option ℕ) → IsBest A st n o → IsBest A st (suc n) o
more_none A st n e None h = λ k lt. elim (cases_eq k n) [ inl same ↦ ap A same ∙ e | inr other ↦ h k (omega arith) ]
more_none A st n e (Some b) h = record {
  below = omega arith;
  itself = h.itself;
  greatest = λ k lt y. elim (cases_eq k n) [ inl same ↦ absurd (true≢false (sym y ∙ ap A same ∙ e)) | inr other ↦ h.greatest k (omega arith) y ];
  first = h.first;
}

more_one : (A : ℕ → Bool) (st : ℕ → ℕ) (n : ℕ) → A n ≡ true → (o : Option ℕ) → IsBest A st n o → IsBest A st (suc n) (better st o n)
more_one A st n e None h = record {
  below = omega arith;
  itself = e;
  greatest = λ k lt y. elim (cases_eq k n) [ inl same ↦ let s : st k ≡ st n = ap st same in omega arith | inr other ↦ absurd (true≢false (sym y ∙ h k (omega arith))) ];
  first = λ k lt y. absurd (true≢false (sym y ∙ h k lt));
}
more_one A st n e (Some b) h =
    elim (cases_Bool (nat_lt (st b) (st n))) [
      | inl true_here ↦ rw true_here (let lt : st b < st n = ltb-true (st b) (st n) true_here in record {
        below = omega arith;
        itself = e;
        greatest = λ k kn y. elim (cases_eq k n) [ inl same ↦ let s : st k ≡ st n = ap st same in omega arith | inr other ↦ let g : st k ≤ st b = h.greatest k (omega arith) y in omega arith ];
        first = λ k kn y. let g : st k ≤ st b = h.greatest k kn y in omega arith;
      })
      | inr fails ↦ rw fails (let le : st n ≤ st b = ltb-false (st b) (st n) fails in record {
        below = omega arith;
        itself = h.itself;
        greatest = λ k kn y. elim (cases_eq k n) [ inl same ↦ let s : st k ≡ st n = ap st same in omega arith | inr other ↦ h.greatest k (omega arith) y ];
        first = h.first;
      })
    ]

pub newest_best : (A : ℕ → Bool) (st : ℕ → ℕ) (n : ℕ) → IsBest A st n (newest_below A st n)
newest_best A st zero = λ k lt. absurd (omega arith)
newest_best A st (suc n) =
    elim (cases_Bool (A n)) [
      | inl true_here ↦ rw true_here (more_one A st n true_here (newest_below A st n) (newest_best A st n))
      | inr fails ↦ rw fails (more_none A st n fails (newest_below A st n) (newest_best A st n))
    ]

pub first_none : (p : ℕ → Bool) (n : ℕ) → ((k : ℕ) → k < n → p k ≡ false) → first_below p n ≡ None
first_none p zero h = refl
first_none p (suc n) h =
    ap (λ o. or_this o (p n) n) (first_none p n (λ k lt. h k (omega arith))) ∙ ap (λ b. if b then Some n else None) (h n (omega arith))

pub first_some : (p : ℕ → Bool) (n b : ℕ) → b < n → p b ≡ true → ((k : ℕ) → k < b → p k ≡ false) → first_below p n ≡ Some b
first_some p zero b lt e h = absurd (omega arith)
first_some p (suc n) b lt e h =
    elim (cases_eq b n) [
      | inl same ↦ ap (λ o. or_this o (p n) n) (first_none p n (λ k kn. h k (omega arith))) ∙ ap (λ v. if v then Some n else None) (ap p (sym same) ∙ e) ∙ ap (λ k. Some k) (sym same)
      | inr other ↦ ap (λ o. or_this o (p n) n) (first_some p n b (omega arith) e h)
    ]

module _ (A : ℕ → Bool) (st : ℕ → ℕ) (n : ℕ) where
  abbrev beaten_by : ℕ → ℕ → Bool
  beaten_by c d = A d && nat_lt (st c) (st d)

  abbrev wins : ℕ → Bool
  wins c = A c && not (any_below (beaten_by c) n)

  loses : (k d : ℕ) → d < n → A d ≡ true → st k < st d → wins k ≡ false
  loses k d lt y less = and_right (A k) _ (not_from_true _ (any_found (beaten_by k) n d lt (and_from (A d) _ y (lt-ltb (st k) (st d) less))))

  not_beaten : (b : ℕ) → IsFirst A st n b → (k : ℕ) → k < n → beaten_by b k ≡ false
  not_beaten b h k lt =
      elim (cases_Bool (A k)) [
        | inl y ↦ and_right (A k) _ (le-ltb (st b) (st k) (h.greatest k lt y))
        | inr e ↦ and_left (A k) _ e
      ]

  pub best_wins : (o : Option ℕ) → IsBest A st n o → o ≡ first_below wins n
  best_wins None h = sym (first_none wins n (λ k lt. and_left (A k) _ (h k lt)))
  best_wins (Some b) h =
      sym (first_some wins n b h.below
      (and_from (A b) _ h.itself (not_from_false _ (none_below (beaten_by b) n (not_beaten b h))))
      (λ k kb. elim (cases_Bool (A k)) [ inl y ↦ loses k b h.below h.itself (h.first k kb y) | inr e ↦ and_left (A k) _ e ]))

pub newest_is_latest : (ops : List OpDecl) (h : List Call) (counted : ℕ → Bool) → newest_below (among h counted (is_of ops Assign)) (λ d. stamp_of (slice_get h d)) (length h) ≡ latest ops h counted
newest_is_latest ops h counted =
    best_wins (among h counted (is_of ops Assign)) (λ d. stamp_of (slice_get h d)) (length h) _ (newest_best _ _ (length h))
