-- What implications under quantifiers mean.
use Rattle.std.proofs.Common.{List, [], ◌∷◌, ◌++◌, ◌↔◌}
use Rattle.rp_logic.specs.Formulas.{Fm, Fms, no_fm, also_fm}
use Rattle.rp_logic.specs.Elements.{Elem}
use Rattle.rp_logic.specs.Truth.{Meaning, Holds, AllHold, AllTrue}
use Rattle.rp_logic.specs.Dual.{duals}
use Rattle.rp_logic.proofs.DualLaws.{stable, dual_law, duals_law}
use Rattle.crdt_enc.specs.Builders.{one_fm}
use Rattle.reshape.proofs.FlattenLaws.{joined-none}
use Rattle.hist_struct.specs.Conditions.{EachCall}
use Rattle.hist_struct.specs.Axioms.{implied, each_call, each_two, each_three}

-- from each of these in turn
abbrev pub From : Meaning → List Elem → Fms → Type 0 → Type 0
From M vars no_fm T = T
From M vars (also_fm f fs) T = Holds M vars f → From M vars fs T

pub from-all : (fs : Fms) (M : Meaning) (vars : List Elem) (T : Type 0) → From M vars fs T ↔ (AllHold M vars fs → T)
from-all no_fm M vars T = ((λ t h. t), λ h. h tt)
from-all (also_fm f fs) M vars T =
    let r = from-all fs M vars T in ((λ g h. r.0 (g h.0) h.1), λ h k. r.1 (λ m. h (k, m)))

pub implied-is : (fs : Fms) (f : Fm) (M : Meaning) (vars : List Elem) → Holds M vars (implied fs f) ↔ From M vars fs (Holds M vars f)
implied-is no_fm f M vars = ((λ h. h), λ h. h)
implied-is (also_fm g gs) f M vars = (
  (λ h hg. (from-all gs M vars (Holds M vars f)).1 (λ all. stable f M vars (λ n. h ((λ d. (dual_law g M vars).0 d hg), (joined-none (duals gs) (one_fm f) M vars).1 ((duals_law gs M vars).0.1 all, (n, tt)))))),
  λ k n.
      let b = (joined-none (duals gs) (one_fm f) M vars).0 n.1 in
      b.1.0 ((from-all gs M vars (Holds M vars f)).0 (k (stable g M vars (λ ng. n.0 ((dual_law g M vars).1 ng)))) ((duals_law gs M vars).0.0 b.0)),
)

pub each-call-is : (M : Meaning) (fs : Fms) (f : Fm) → Holds M [] (each_call fs f) ↔ EachCall M (λ c. From M (c ∷ []) fs (Holds M (c ∷ []) f))
each-call-is M fs f = ((λ h c i. (implied-is fs f M (c ∷ [])).0 (h c i)), λ h c i. (implied-is fs f M (c ∷ [])).1 (h c i))

pub each-two-is : (M : Meaning) (fs : Fms) (f : Fm)
    → Holds M [] (each_two fs f) ↔ EachCall M (λ c. EachCall M (λ d. From M (d ∷ c ∷ []) fs (Holds M (d ∷ c ∷ []) f)))
each-two-is M fs f = ((λ h c i d j. (implied-is fs f M (d ∷ c ∷ [])).0 (h c i d j)), λ h c i d j. (implied-is fs f M (d ∷ c ∷ [])).1 (h c i d j))

pub each-three-is : (M : Meaning) (fs : Fms) (f : Fm)
    → Holds M [] (each_three fs f) ↔ EachCall M (λ c. EachCall M (λ d. EachCall M (λ e. From M (e ∷ d ∷ c ∷ []) fs (Holds M (e ∷ d ∷ c ∷ []) f))))
each-three-is M fs f = (
  (λ h c i d j e k. (implied-is fs f M (e ∷ d ∷ c ∷ [])).0 (h c i d j e k)),
  λ h c i d j e k. (implied-is fs f M (e ∷ d ∷ c ∷ [])).1 (h c i d j e k),
)

-- # Lists of formulas

pub all-both : (fs gs : List Fm) (M : Meaning) → AllTrue M (fs ++ gs) ↔ (AllTrue M fs × AllTrue M gs)
all-both [] gs M = ((λ h. (tt, h)), λ h. h.1)
all-both (f ∷ fs) gs M = let r = all-both fs gs M in ((λ h. ((h.0, (r.0 h.1).0), (r.0 h.1).1)), λ h. (h.0.0, r.1 (h.0.1, h.1)))
