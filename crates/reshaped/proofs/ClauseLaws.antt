-- A clause means what the disjunction means, and is as well sorted.
use Rattle.std.proofs.Common.{ℕ, List, ◌∷◌, ◌↔◌, refl, ap, ◌∙◌, eq-eqb}
use Rattle.rp_logic.specs.declared.sort.NewConst.{NewConst}
use Rattle.rp_logic.specs.Formulas.{Fm, Fms, And, Or, All, Ex, Lit, no_fm, also_fm}
use Rattle.rp_logic.specs.Elements.{Elem}
use Rattle.rp_logic.specs.Signatures.{Signature}
use Rattle.rp_logic.specs.Sorted.{is_sort, IsSorted, AreSorted}
use Rattle.rp_logic.specs.Truth.{Meaning, Holds, NoneHolds}
use Rattle.rp_logic.specs.Filling.{filled_in, filled_ins, behind, Gives, Suits}
use Rattle.rp_logic.proofs.DualLaws.{stable, none_stable}
use Rattle.rp_logic.proofs.FillingLaws.{filled-holds, filled-all}
use Rattle.rp_logic.proofs.KeptSorts.{filled-in-sorted, filled-ins-sorted}
use Rattle.reshape.specs.Joined.{joined}
use Rattle.reshape.proofs.FlattenLaws.{joined-none}
use Rattle.reshaped.specs.Clauses.{beside, either, clause}

-- # Truth

gives-behind : (M : Meaning) (v : Elem) (vars : List Elem) → Gives M behind (v ∷ vars) vars
gives-behind M v vars n = refl

-- Not all parts are false, or the formula isn't.
joined-one-is : (fs : Fms) (g : Fm) (M : Meaning) (vars : List Elem)
    → Holds M vars (Or (joined fs (also_fm g no_fm))) ↔ ¬ (NoneHolds M vars fs × ¬ Holds M vars g)
joined-one-is fs g M vars =
    let j = joined-none fs (also_fm g no_fm) M vars in ((λ h k. h (j.1 (k.0, (k.1, tt)))), λ h k. let n = j.0 k in h (n.0, n.1.0))

beside-is : (g : Fm) (fs : Fms) (M : Meaning) (vars : List Elem) → Holds M vars (beside fs g) ↔ ¬ (NoneHolds M vars fs × ¬ Holds M vars g)
beside-is (All s g) fs M vars = (
  (λ h k. k.1 (λ v i. stable g M (v ∷ vars) (λ n. (beside-is g (filled_ins behind fs) M (v ∷ vars)).0 (h v i) ((filled-all fs M behind (v ∷ vars) vars (gives-behind M v vars)).1.1 k.0, n)))),
  λ h v i. (beside-is g (filled_ins behind fs) M (v ∷ vars)).1 (λ k. h ((filled-all fs M behind (v ∷ vars) vars (gives-behind M v vars)).1.0 k.0, λ a. k.1 (a v i))),
)
beside-is (Or gs) fs M vars =
    let j = joined-none fs gs M vars in ((λ h k. h (j.1 (k.0, none_stable gs M vars k.1))), λ h k. let n = j.0 k in h (n.0, λ z. z n.1))
beside-is (And gs) fs M vars = joined-one-is fs (And gs) M vars
beside-is (Ex s g) fs M vars = joined-one-is fs (Ex s g) M vars
beside-is (Lit sign atom) fs M vars = joined-one-is fs (Lit sign atom) M vars

beside-one : (f g : Fm) (M : Meaning) (vars : List Elem) → Holds M vars (beside (also_fm f no_fm) g) ↔ ¬ ((¬ Holds M vars f) × ¬ Holds M vars g)
beside-one f g M vars = let b = beside-is g (also_fm f no_fm) M vars in ((λ h k. b.0 h ((k.0, tt), k.1)), λ h. b.1 (λ k. h (k.0.0, k.1)))

either-is : (f g : Fm) (M : Meaning) (vars : List Elem) → Holds M vars (either f g) ↔ ¬ ((¬ Holds M vars f) × ¬ Holds M vars g)
either-is (All s f) g M vars = (
  (λ h k. k.0 (λ v i. stable f M (v ∷ vars) (λ n. (either-is f (filled_in behind g) M (v ∷ vars)).0 (h v i) (n, λ a. k.1 ((filled-holds g M behind (v ∷ vars) vars (gives-behind M v vars)).0 a))))),
  λ h v i. (either-is f (filled_in behind g) M (v ∷ vars)).1 (λ k. h ((λ a. k.0 (a v i)), λ a. k.1 ((filled-holds g M behind (v ∷ vars) vars (gives-behind M v vars)).1 a))),
)
either-is (Or fs) g M vars = let b = beside-is g fs M vars in ((λ h k. b.0 h (none_stable fs M vars k.0, k.1)), λ h. b.1 (λ k. h ((λ z. z k.0), k.1)))
either-is (And fs) g M vars = beside-one (And fs) g M vars
either-is (Ex s f) g M vars = beside-one (Ex s f) g M vars
either-is (Lit sign atom) g M vars = beside-one (Lit sign atom) g M vars

pub clause-is : (fs : Fms) (M : Meaning) (vars : List Elem) → Holds M vars (clause fs) ↔ Holds M vars (Or fs)
clause-is no_fm M vars = ((λ h. h), λ h. h)
clause-is (also_fm f fs) M vars =
    let e = either-is f (clause fs) M vars in
    let c = clause-is fs M vars in ((λ h k. e.0 h (k.0, λ a. c.0 a k.1)), λ h. e.1 (λ k. h (k.0, none_stable fs M vars (λ a. k.1 (c.1 a)))))

-- # Sorts

suits-behind : (S : Signature) (added : List NewConst) (scope : List ℕ) (s : ℕ) → Suits S added (s ∷ scope) scope behind
suits-behind S added scope s n d e = ap (λ o. is_sort o d) e ∙ eq-eqb d d refl

joined-sorted : (fs gs : Fms) (S : Signature) (added : List NewConst) (scope : List ℕ) → AreSorted S added scope fs → AreSorted S added scope gs → AreSorted S added scope (joined fs gs)
joined-sorted no_fm gs S added scope h k = k
joined-sorted (also_fm f fs) gs S added scope h k = (h.0, joined-sorted fs gs S added scope h.1 k)

beside-sorted : (g : Fm) (fs : Fms) (S : Signature) (added : List NewConst) (scope : List ℕ) → AreSorted S added scope fs → IsSorted S added scope g → IsSorted S added scope (beside fs g)
beside-sorted (All s g) fs S added scope h k =
    (k.0, beside-sorted g (filled_ins behind fs) S added (s ∷ scope) (filled-ins-sorted fs S added (s ∷ scope) scope behind (suits-behind S added scope s) h) k.1)
beside-sorted (Or gs) fs S added scope h k = joined-sorted fs gs S added scope h k
beside-sorted (And gs) fs S added scope h k = joined-sorted fs (also_fm (And gs) no_fm) S added scope h (k, tt)
beside-sorted (Ex s g) fs S added scope h k = joined-sorted fs (also_fm (Ex s g) no_fm) S added scope h (k, tt)
beside-sorted (Lit sign atom) fs S added scope h k = joined-sorted fs (also_fm (Lit sign atom) no_fm) S added scope h (k, tt)

either-sorted : (f g : Fm) (S : Signature) (added : List NewConst) (scope : List ℕ) → IsSorted S added scope f → IsSorted S added scope g → IsSorted S added scope (either f g)
either-sorted (All s f) g S added scope h k =
    (h.0, either-sorted f (filled_in behind g) S added (s ∷ scope) h.1 (filled-in-sorted g S added (s ∷ scope) scope behind (suits-behind S added scope s) k))
either-sorted (Or fs) g S added scope h k = beside-sorted g fs S added scope h k
either-sorted (And fs) g S added scope h k = beside-sorted g (also_fm (And fs) no_fm) S added scope (h, tt) k
either-sorted (Ex s f) g S added scope h k = beside-sorted g (also_fm (Ex s f) no_fm) S added scope (h, tt) k
either-sorted (Lit sign atom) g S added scope h k = beside-sorted g (also_fm (Lit sign atom) no_fm) S added scope (h, tt) k

pub clause-sorted : (fs : Fms) (S : Signature) (added : List NewConst) (scope : List ℕ) → AreSorted S added scope fs → IsSorted S added scope (clause fs)
clause-sorted no_fm S added scope h = tt
clause-sorted (also_fm f fs) S added scope h = either-sorted f (clause fs) S added scope h.0 (clause-sorted fs S added scope h.1)
