-- Numbers below a bound, one at a time.
use Rattle.std.proofs.Common.{◌≡◌, ◌<◌, ◌≤◌, ◌+◌, ◌*◌, min, ℕ, zero, suc, Bool, true, false, ◌&&◌, List, length, nat_eq, add-one, refl, ap, sym, ◌∙◌, arith, inl, inr}
use Rattle.std.specs.Prelude.{if◌then◌else◌}
use Rattle.std.proofs.lemmas.Bool.{and_left, and_right, and_from, cases_eq, cases_lt, ne_eqb}
use Rattle.std.proofs.Math.Nat.{suc-mul, zero-mul}
use Rattle.std.proofs.lemmas.Option.{slice_get_past}
use Rattle.rp_value.specs.declared.tables.Ty.{Ty}
use Rattle.crdt_defs.specs.Calls.{Call}
use Rattle.crdt_defs.specs.Counting.{all_below}
use Rattle.crdt_defs.specs.Histories.{meets, call_is}
use Rattle.crdt_defs.specs.Parts.{Parts, is_in_range}
use Rattle.rp_value.specs.Values.{Con, Vals, no_val, also_val}
use Rattle.crdt_defs.specs.Truths.{is_true}
use Rattle.crdt_truth.specs.Breadths.{in_range_below}
use Rattle.crdt_truth.specs.Meanings.{no_vals}

pub all_more : (p : ℕ → Bool) (n : ℕ) → all_below p n ≡ true → p n ≡ true → all_below p (n + 1) ≡ true
all_more p n h e = rw add-one (and_from (p n) (all_below p n) e h)

-- one that fails is enough
pub all_failed : (p : ℕ → Bool) (n c : ℕ) → c < n → p c ≡ false → all_below p n ≡ false
all_failed p zero c lt e = absurd (omega arith)
all_failed p (suc n) c lt e =
    elim (cases_eq c n) [
      | inl same ↦ and_left (p n) (all_below p n) (ap p (sym same) ∙ e)
      | inr other ↦ ap (λ b. p n && b) (all_failed p n c (omega arith) e) ∙ and_right (p n) false refl
    ]

pub in_range_more : (s : Parts) (over : Ty) (n : ℕ) → in_range_below s over (n + 1) ≡ in_range_below s over n + (if is_in_range s over n then 1 else 0)
in_range_more s over n = rw add-one refl

-- past the last call there is none
pub no_call : (h : List Call) (test : Call → Bool) (c : ℕ) → length h ≤ c → call_is h test c ≡ false
no_call h test c le = ap (meets test) (slice_get_past h c le)

-- a product of what is cut off is cut off alike
pub product_cut : (a b most : ℕ) → min (a * min b most) most ≡ min (a * b) most
product_cut zero b most = ap (λ x. min x most) (zero-mul (min b most) ∙ sym (zero-mul b))
product_cut (suc a) b most =
    elim (cases_lt b most) [
      | inl less ↦ ap (λ x. min (suc a * x) most) (let e : min b most ≡ b = omega arith in e)
      | inr more ↦
          let cut : min (suc a * min b most) most ≡ min (suc a * most) most = ap (λ x. min (suc a * x) most) (let e : min b most ≡ most = omega arith in e) in
          let left : suc a * most ≡ a * most + most = suc-mul a most in
          let right : suc a * b ≡ a * b + b = suc-mul a b in
          omega arith
    ]

pub true_built : (con : ℕ) (vs : Vals) → is_true (Con con vs) ≡ (nat_eq con 1 && no_vals vs)
true_built zero vs = refl
true_built (suc zero) no_val = refl
true_built (suc zero) (also_val v vs) = refl
true_built (suc (suc n)) vs = sym (ap (λ b. b && no_vals vs) (ne_eqb (suc (suc n)) 1 (λ e. absurd (omega arith))))
