-- The pass keeps what formulas mean, and their sorts.
use Rattle.std.proofs.Common.{◌≡◌, ℕ, List, [], ◌∷◌, Bool, true, false, cond, ap, subst}
use Rattle.rp_logic.specs.declared.sort.NewConst.{NewConst}
use Rattle.rp_logic.specs.Formulas.{Fm, Fms, And, Or, All, Ex, Lit, no_fm, also_fm}
use Rattle.rp_logic.specs.Signatures.{Signature}
use Rattle.rp_logic.specs.Sorted.{IsSorted, AreSorted, IsWellSorted}
use Rattle.rp_logic.specs.Truth.{meaning_with}
use Rattle.rp_logic.specs.Dual.{dual, duals}
use Rattle.rp_logic.specs.Filling.{MeansSame}
use Rattle.rp_logic.proofs.DualSorts.{dual-dual, dual-sorted, duals-sorted}
use Rattle.reshape.proofs.PassLaws.{same-itself, same-both, same-all, same-and, same-or, same-dual, MeanSame}
use Rattle.reshaped.specs.Clauses.{clause}
use Rattle.reshaped.specs.Shapes.{universal, shaped, shaped_each, is_quantified, reshaped}
use Rattle.reshaped.proofs.ClauseLaws.{clause-is, clause-sorted}
use Rattle.reshaped.proofs.WithoutLaws.{Keeps, universal-keeps}

-- one step behind another
keeps-both : (S : Signature) (added : List NewConst) (scope : List ℕ) (f g h : Fm) → Keeps S added scope f g → MeansSame S added scope g h → Keeps S added scope f h
keeps-both S added scope f g h a b = (same-both S added scope f g h a.0 b, a.1)

-- of the dual of a formula: the dual of what a step makes
keeps-dual : (S : Signature) (added : List NewConst) (scope : List ℕ) (g f : Fm) → Keeps S added scope g (dual f) → Keeps S added scope (dual g) f
keeps-dual S added scope g f k =
    (subst (MeansSame S added scope (dual g)) (dual-dual f) (same-dual S added scope g (dual f) k.0), dual-sorted g S added scope k.1)

clause-keeps : (S : Signature) (added : List NewConst) (scope : List ℕ) (fs : Fms) → AreSorted S added scope fs → Keeps S added scope (clause fs) (Or fs)
clause-keeps S added scope fs sorted = ((λ M consts fits vars within. clause-is fs (meaning_with S M consts) vars), clause-sorted fs S added scope sorted)

abbrev pub KeepEach : Signature → List NewConst → List ℕ → Fms → Fms → Type 0
KeepEach S added scope gs fs = MeanSame S added scope gs fs × AreSorted S added scope gs

mutual
  shaped-keeps : (f : Fm) (S : Signature) (added : List NewConst) (scope : List ℕ) → IsSorted S added scope f → Keeps S added scope (shaped f) f
  shaped-keeps (And fs) S added scope sorted =
      let k = shaped-keep fs S added scope sorted in
      let gs = shaped_each fs in
      let c = clause-keeps S added scope (duals gs) (duals-sorted gs S added scope k.1) in
      keeps-both S added scope _ (And gs) (And fs) (keeps-dual S added scope (clause (duals gs)) (And gs) c) (same-and S added scope gs fs k.0)
  shaped-keeps (Or fs) S added scope sorted =
      let k = shaped-keep fs S added scope sorted in
      let gs = shaped_each fs in
      keeps-both S added scope _ (Or gs) (Or fs) (clause-keeps S added scope gs k.1) (same-or S added scope gs fs k.0)
  shaped-keeps (All s f) S added scope sorted =
      let k = shaped-keeps f S added (s ∷ scope) sorted.1 in
      keeps-both S added scope _ (All s (shaped f)) (All s f) (universal-keeps S added scope s (shaped f) (sorted.0, k.1)) (same-all S added scope s (shaped f) f k.0)
  shaped-keeps (Ex s f) S added scope sorted =
      let k = shaped-keeps f S added (s ∷ scope) sorted.1 in
      let g = shaped f in
      let u = universal-keeps S added scope s (dual g) (sorted.0, dual-sorted g S added (s ∷ scope) k.1) in
      let v = keeps-both S added scope _ (All s (dual g)) (All s (dual f)) u (same-all S added scope s (dual g) (dual f) (same-dual S added (s ∷ scope) g f k.0)) in
      keeps-dual S added scope (universal s (dual g)) (Ex s f) v
  shaped-keeps (Lit sign atom) S added scope sorted = (same-itself S added scope (Lit sign atom), sorted)

  shaped-keep : (fs : Fms) (S : Signature) (added : List NewConst) (scope : List ℕ) → AreSorted S added scope fs → KeepEach S added scope (shaped_each fs) fs
  shaped-keep no_fm S added scope sorted = (tt, tt)
  shaped-keep (also_fm f fs) S added scope sorted =
      let k = shaped-keeps f S added scope sorted.0 in
      let ks = shaped-keep fs S added scope sorted.1 in ((k.0, ks.0), (k.1, ks.1))

either-way : (b : Bool) (S : Signature) (f : Fm) → IsWellSorted S f → Keeps S [] [] (cond b (shaped f) f) f
either-way true S f sorted = shaped-keeps f S [] [] sorted
either-way false S f sorted = (same-itself S [] [] f, sorted)

pub reshaped-keeps : (S : Signature) (f : Fm) → IsWellSorted S f → Keeps S [] [] (reshaped f) f
reshaped-keeps S f sorted = either-way (is_quantified f) S f sorted

pub plain-stays : (f : Fm) → is_quantified f ≡ false → reshaped f ≡ f
plain-stays f is = ap (λ b. cond b (shaped f) f) is
