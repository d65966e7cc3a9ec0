-- The formulas of a branch are well sorted.
use Rattle.std.proofs.Common.{◌≡◌, ℕ, zero, suc, List, [], ◌∷◌, ◌++◌, slice_get, Some, subst}
use Rattle.std.proofs.lemmas.Option.{same_Some}
use Rattle.rp_logic.specs.declared.sort.NewConst.{NewConst}
use Rattle.rp_logic.specs.Formulas.{Fm}
use Rattle.rp_logic.specs.Signatures.{Signature}
use Rattle.rp_logic.specs.Sorted.{IsSorted}

abbrev pub EachSorted : Signature → List NewConst → List Fm → Type 0
EachSorted S added [] = Unit {0}
EachSorted S added (f ∷ fs) = IsSorted S added [] f × EachSorted S added fs

pub sorted_at : (S : Signature) (added : List NewConst) (fs : List Fm) (p : ℕ) (f : Fm)
    → slice_get fs p ≡ Some f → EachSorted S added fs → IsSorted S added [] f
sorted_at S added [] p f e h = absurd cc
sorted_at S added (g ∷ gs) zero f e h = subst (λ x. IsSorted S added [] x) (same_Some g f e) h.0
sorted_at S added (g ∷ gs) (suc p) f e h = sorted_at S added gs p f e h.1

pub each_more : (S : Signature) (added : List NewConst) (fs : List Fm) (f : Fm)
    → EachSorted S added fs → IsSorted S added [] f → EachSorted S added (fs ++ f ∷ [])
each_more S added [] f h t = (t, tt)
each_more S added (g ∷ gs) f h t = (h.0, each_more S added gs f h.1 t)
