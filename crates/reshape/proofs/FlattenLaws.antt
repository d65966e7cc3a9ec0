-- Parts of parts, and parts in another order.
use Rattle.std.proofs.Common.{List, ◌↔◌}
use Rattle.rp_logic.specs.Formulas.{Fm, Fms, And, Or, no_fm, also_fm}
use Rattle.rp_logic.specs.Elements.{Elem}
use Rattle.rp_logic.specs.Truth.{Meaning, Holds, AllHold, NoneHolds}
use Rattle.rp_logic.proofs.DualLaws.{none_stable}
use Rattle.reshape.specs.Joined.{joined}

pub joined-all : (fs gs : Fms) (M : Meaning) (vars : List Elem) → AllHold M vars (joined fs gs) ↔ (AllHold M vars fs × AllHold M vars gs)
joined-all no_fm gs M vars = ((λ h. (tt, h)), λ h. h.1)
joined-all (also_fm f fs) gs M vars = let r = joined-all fs gs M vars in ((λ h. ((h.0, (r.0 h.1).0), (r.0 h.1).1)), λ h. (h.0.0, r.1 (h.0.1, h.1)))

pub joined-none : (fs gs : Fms) (M : Meaning) (vars : List Elem) → NoneHolds M vars (joined fs gs) ↔ (NoneHolds M vars fs × NoneHolds M vars gs)
joined-none no_fm gs M vars = ((λ h. (tt, h)), λ h. h.1)
joined-none (also_fm f fs) gs M vars = let r = joined-none fs gs M vars in ((λ h. ((h.0, (r.0 h.1).0), (r.0 h.1).1)), λ h. (h.0.0, r.1 (h.0.1, h.1)))

pub or-flat : (gs fs : Fms) (M : Meaning) (vars : List Elem) → Holds M vars (Or (joined gs fs)) ↔ Holds M vars (Or (also_fm (Or gs) fs))
or-flat gs fs M vars =
    let j = joined-none gs fs M vars in ((λ h k. h (j.1 (none_stable gs M vars k.0, k.1))), λ h k. let n = j.0 k in h ((λ z. z n.0), n.1))

pub and-flat : (gs fs : Fms) (M : Meaning) (vars : List Elem) → Holds M vars (And (joined gs fs)) ↔ Holds M vars (And (also_fm (And gs) fs))
and-flat gs fs M vars = joined-all gs fs M vars

-- any part may stand first
pub or-first : (fs : Fms) (f : Fm) (gs : Fms) (M : Meaning) (vars : List Elem) → Holds M vars (Or (also_fm f (joined fs gs))) ↔ Holds M vars (Or (joined fs (also_fm f gs)))
or-first fs f gs M vars =
    let a = joined-none fs (also_fm f gs) M vars in
    let b = joined-none fs gs M vars in (
      (λ h k. let n = a.0 k in h (n.1.0, b.1 (n.0, n.1.1))),
      λ h k. let n = b.0 k.1 in h (a.1 (n.0, (k.0, n.1))),
    )
