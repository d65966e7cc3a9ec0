-- What the sign does at each form of formula.
use Rattle.std.proofs.Common.{◌≡◌, Bool, true, false, not, refl, sym, ap, ◌∙◌}
use Rattle.rp_value.specs.declared.tables.Ty.{Ty}
use Rattle.rp_value.specs.declared.tables.Ty.TheVariants as ty
use Rattle.rp_logic.specs.Dual.{dual, duals}
use Rattle.rp_logic.specs.Formulas.{Fm, And, Or, All, Ex, Lit, Fms, no_fm, also_fm}
use Rattle.rp_logic.specs.Terms as tm
use Rattle.crdt_enc.specs.FormulaFormulas.{sort_of, guard, each_under, some_under}
use Rattle.crdt_enc.specs.Places.{At}
use Rattle.formula_enc.specs.means.Signs.{signed, signed_all, joint, quantified}

not_twice : (b : Bool) → not (not b) ≡ b
not_twice true = refl
not_twice false = refl

mutual
  dual_twice : (f : Fm) → dual (dual f) ≡ f
  dual_twice (And fs) = ap And (duals_twice fs)
  dual_twice (Or fs) = ap Or (duals_twice fs)
  dual_twice (All s f) = ap (All s) (dual_twice f)
  dual_twice (Ex s f) = ap (Ex s) (dual_twice f)
  dual_twice (Lit b a) = ap (λ c. Lit c a) (not_twice b)

  duals_twice : (fs : Fms) → duals (duals fs) ≡ fs
  duals_twice no_fm = refl
  duals_twice (also_fm f fs) = ap (λ g. also_fm g (duals (duals fs))) (dual_twice f) ∙ ap (also_fm f) (duals_twice fs)

pub signed-And : (b : Bool) (fs : Fms) → joint b (signed_all b fs) ≡ signed b (And fs)
signed-And true fs = refl
signed-And false fs = refl

pub signed-Or : (b : Bool) (fs : Fms) → joint (not b) (signed_all b fs) ≡ signed b (Or fs)
signed-Or true fs = refl
signed-Or false fs = refl

pub signed-Not : (b : Bool) (f : Fm) → signed (not b) f ≡ signed b (dual f)
signed-Not true f = refl
signed-Not false f = sym (dual_twice f)

pub signed-Implies : (b : Bool) (f g : Fm) → joint (not b) (also_fm (signed (not b) f) (also_fm (signed b g) no_fm)) ≡ signed b (Or (also_fm (dual f) (also_fm g no_fm)))
signed-Implies true f g = refl
signed-Implies false f g = ap (λ h. And (also_fm h (also_fm (dual g) no_fm))) (sym (dual_twice f))

pub signed-Lit : (b : Bool) (a : tm.At) → Lit b a ≡ signed b (Lit true a)
signed-Lit true a = refl
signed-Lit false a = refl

-- two formulas, of which the first is a literal
pub signed-arm : (b : Bool) (a : tm.At) (f : Fm) → joint b (also_fm (Lit b a) (also_fm (signed b f) no_fm)) ≡ signed b (And (also_fm (Lit true a) (also_fm f no_fm)))
signed-arm true a f = refl
signed-arm false a f = refl

pub signed_more : (b : Bool) (f : Fm) (fs : Fms) → also_fm (signed b f) (signed_all b fs) ≡ signed_all b (also_fm f fs)
signed_more true f fs = refl
signed_more false f fs = refl

pub signed_none : (b : Bool) → no_fm ≡ signed_all b no_fm
signed_none true = refl
signed_none false = refl

-- # Quantifiers

denied-All : (at : At) (over : Ty) (f : Fm) → Ex (sort_of over) (some_under (guard true at over) (dual f)) ≡ dual (All (sort_of over) (each_under (guard false at over) f))
denied-All at ty.Int f = refl
denied-All at ty.Str f = refl
denied-All at (ty.Atom n) f = refl
denied-All at (ty.Datatype n) f = refl
denied-All at ty.Call f = refl
denied-All at ty.Inv f = refl
denied-All at ty.Operation f = refl
denied-All at ty.Info f = refl
denied-All at ty.Outcome f = refl

denied-Any : (at : At) (over : Ty) (f : Fm) → All (sort_of over) (each_under (guard false at over) (dual f)) ≡ dual (Ex (sort_of over) (some_under (guard true at over) f))
denied-Any at ty.Int f = refl
denied-Any at ty.Str f = refl
denied-Any at (ty.Atom n) f = refl
denied-Any at (ty.Datatype n) f = refl
denied-Any at ty.Call f = refl
denied-Any at ty.Inv f = refl
denied-Any at ty.Operation f = refl
denied-Any at ty.Info f = refl
denied-Any at ty.Outcome f = refl

pub signed-All : (b : Bool) (at : At) (over : Ty) (f : Fm) → quantified b at over (signed b f) ≡ signed b (All (sort_of over) (each_under (guard false at over) f))
signed-All true at over f = refl
signed-All false at over f = denied-All at over f

pub signed-Any : (b : Bool) (at : At) (over : Ty) (f : Fm) → quantified (not b) at over (signed b f) ≡ signed b (Ex (sort_of over) (some_under (guard true at over) f))
signed-Any true at over f = refl
signed-Any false at over f = denied-Any at over f

pub ruleset signs = (signed-And, signed-Or, signed-Not, signed-Implies, signed-Lit, signed-arm, signed-All, signed-Any)
