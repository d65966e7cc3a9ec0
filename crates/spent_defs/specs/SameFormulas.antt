-- Whether two formulas are equal.
use Rattle.std.specs.Prelude.{Bool, true, false, ◌&&◌, ◌==◌}
use Rattle.rp_logic.specs.Formulas.{Fm, And, Or, All, Ex, Lit, Fms, no_fm, also_fm}
use Rattle.refute_defs.specs.Same.{same_at}

abbrev mutual
  pub same_fm : Fm → Fm → Bool
  same_fm (And fs) (And gs) = same_fms fs gs
  same_fm (And fs) _ = false
  same_fm (Or fs) (Or gs) = same_fms fs gs
  same_fm (Or fs) _ = false
  same_fm (All s f) (All t g) = s == t && same_fm f g
  same_fm (All s f) _ = false
  same_fm (Ex s f) (Ex t g) = s == t && same_fm f g
  same_fm (Ex s f) _ = false
  same_fm (Lit true a) (Lit true c) = same_at a c
  same_fm (Lit false a) (Lit false c) = same_at a c
  same_fm (Lit sign a) _ = false

  pub same_fms : Fms → Fms → Bool
  same_fms no_fm no_fm = true
  same_fms no_fm (also_fm g gs) = false
  same_fms (also_fm f fs) no_fm = false
  same_fms (also_fm f fs) (also_fm g gs) = same_fm f g && same_fms fs gs
