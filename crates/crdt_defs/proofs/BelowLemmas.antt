-- Tests and sums over the numbers below a bound, one number at a time.
use Rattle.std.proofs.Common.{◌≡◌, ℕ, zero, suc, ◌+◌, ◌<◌, Bool, true, false, refl, sym, ◌∙◌, ap, add-one, arith, ℤ, ◌+ℤ◌, inl, inr}
use Rattle.std.proofs.lemmas.Bool.{or_left, or_right, or_from, cases_eq}
use Rattle.crdt_defs.specs.Counting.{any_below, sum_below}

pub any_more : (p : ℕ → Bool) (n : ℕ) → any_below p n ≡ false → p n ≡ false → any_below p (n + 1) ≡ false
any_more p n h e = rw add-one (or_from (p n) (any_below p n) e h)

pub any_found : (p : ℕ → Bool) (n c : ℕ) → c < n → p c ≡ true → any_below p n ≡ true
any_found p zero c lt e = absurd (omega arith)
any_found p (suc n) c lt e =
    elim (cases_eq c n) [
      | inl same ↦ or_left (p n) (any_below p n) (ap p (sym same) ∙ e)
      | inr other ↦ or_right (p n) (any_below p n) (any_found p n c (omega arith) e)
    ]

pub none_below : (p : ℕ → Bool) (n : ℕ) → ((k : ℕ) → k < n → p k ≡ false) → any_below p n ≡ false
none_below p zero h = refl
none_below p (suc n) h = or_from (p n) (any_below p n) (h n (omega arith)) (none_below p n (λ k lt. h k (omega arith)))

pub sum_more : (f : ℕ → ℤ) (n : ℕ) → sum_below f (n + 1) ≡ sum_below f n +ℤ f n
sum_more f n = rw add-one refl
