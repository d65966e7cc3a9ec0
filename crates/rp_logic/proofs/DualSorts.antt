-- The dual of the dual, and sorts of duals.
use Rattle.std.proofs.Common.{◌≡◌, ℕ, List, ◌∷◌, Bool, true, false, not, refl, ap, ap₂}
use Rattle.rp_logic.specs.declared.sort.NewConst.{NewConst}
use Rattle.rp_logic.specs.Formulas.{Fm, Fms, And, Or, All, Ex, Lit, no_fm, also_fm}
use Rattle.rp_logic.specs.Signatures.{Signature}
use Rattle.rp_logic.specs.Sorted.{IsSorted, AreSorted}
use Rattle.rp_logic.specs.Dual.{dual, duals}

not-not : (b : Bool) → not (not b) ≡ b
not-not true = refl
not-not false = refl

mutual
  pub dual-dual : (f : Fm) → dual (dual f) ≡ f
  dual-dual (And fs) = ap (λ fs. And fs) (duals-duals fs)
  dual-dual (Or fs) = ap (λ fs. Or fs) (duals-duals fs)
  dual-dual (All s f) = ap (λ f. All s f) (dual-dual f)
  dual-dual (Ex s f) = ap (λ f. Ex s f) (dual-dual f)
  dual-dual (Lit b a) = ap (λ b. Lit b a) (not-not b)

  pub duals-duals : (fs : Fms) → duals (duals fs) ≡ fs
  duals-duals no_fm = refl
  duals-duals (also_fm f fs) = ap₂ (λ f fs. also_fm f fs) (dual-dual f) (duals-duals fs)

mutual
  pub dual-sorted : (f : Fm) (S : Signature) (added : List NewConst) (scope : List ℕ) → IsSorted S added scope f → IsSorted S added scope (dual f)
  dual-sorted (And fs) S added scope h = duals-sorted fs S added scope h
  dual-sorted (Or fs) S added scope h = duals-sorted fs S added scope h
  dual-sorted (All s f) S added scope h = (h.0, dual-sorted f S added (s ∷ scope) h.1)
  dual-sorted (Ex s f) S added scope h = (h.0, dual-sorted f S added (s ∷ scope) h.1)
  dual-sorted (Lit b a) S added scope h = h

  pub duals-sorted : (fs : Fms) (S : Signature) (added : List NewConst) (scope : List ℕ) → AreSorted S added scope fs → AreSorted S added scope (duals fs)
  duals-sorted no_fm S added scope h = tt
  duals-sorted (also_fm f fs) S added scope h = (dual-sorted f S added scope h.0, duals-sorted fs S added scope h.1)
