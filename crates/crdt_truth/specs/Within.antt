-- Integers that stay within 128 bits while an expression or a formula is evaluated.
use Rattle.std.specs.Prelude.{◌≡◌, ℕ, ◌<◌, Bool, true, false, nat_lt, ℤ, pos, negsuc, ◌^◌, ◌+ℤ◌, ◌-ℤ◌, List, ◌∷◌}
use Rattle.rp_value.specs.Values.{Val}
use Rattle.rp_value.specs.declared.tables.Ty.{Ty}
use Rattle.rp_lang.specs.Exprs.{Ex, Slot, Bound, Int, Str, Con, Plus, Add, Sub, Query, OpOf, OpTerm, OriginOf, InfoOf, InfoTerm, ResultOf, ResultTerm, ResultWith, Unreturned, Exs, no_ex, also_ex}
use Rattle.rp_lang.specs.Formulas as fo
use Rattle.rp_lang.specs.Formulas.{Fo, Fos, no_fo, also_fo, Arms, no_arm, also_arm}
use Rattle.crdt_defs.specs.Parts.{bound, is_in_range, member}
use Rattle.crdt_defs.specs.Truths.{Reading, number, value, is_built, bind_fields}

-- from -2^127 up to 2^127 - 1: `negsuc n` is -n - 1
abbrev pub fits : ℤ → Bool
fits (pos n) = nat_lt n (2 ^ 127)
fits (negsuc n) = nat_lt n (2 ^ 127)

abbrev pub SumFits : ℤ → ℤ → Type 0
SumFits a b = fits (a +ℤ b) ≡ true

abbrev pub DifferenceFits : ℤ → ℤ → Type 0
DifferenceFits a b = fits (a -ℤ b) ≡ true

-- each sum and difference of the expression has 128 bits
abbrev mutual
  pub ExWithin : Reading → List Val → Ex → Type 0
  ExWithin r binders (Slot s) = Unit
  ExWithin r binders (Bound n) = Unit
  ExWithin r binders (Int n) = Unit
  ExWithin r binders (Str bytes) = Unit
  ExWithin r binders (Con con args) = ExsWithin r binders args
  ExWithin r binders (Plus e n) = ExWithin r binders e × SumFits (number (value r binders e)) n
  ExWithin r binders (Add a b) = ExWithin r binders a × ExWithin r binders b × SumFits (number (value r binders a)) (number (value r binders b))
  ExWithin r binders (Sub a b) = ExWithin r binders a × ExWithin r binders b × DifferenceFits (number (value r binders a)) (number (value r binders b))
  ExWithin r binders (Query query args) = ExsWithin r binders args
  ExWithin r binders (OpOf call) = ExWithin r binders call
  ExWithin r binders (OpTerm op args) = ExsWithin r binders args
  ExWithin r binders (OriginOf call) = ExWithin r binders call
  ExWithin r binders (InfoOf inv) = ExWithin r binders inv
  ExWithin r binders (InfoTerm proc args) = ExsWithin r binders args
  ExWithin r binders (ResultOf inv) = ExWithin r binders inv
  ExWithin r binders (ResultTerm proc) = Unit
  ExWithin r binders (ResultWith proc e) = ExWithin r binders e
  ExWithin r binders Unreturned = Unit

  pub ExsWithin : Reading → List Val → Exs → Type 0
  ExsWithin r binders no_ex = Unit
  ExsWithin r binders (also_ex e es) = ExWithin r binders e × ExsWithin r binders es

-- each sum and difference that the truth of a formula may come to has 128 bits
abbrev mutual
  pub FoWithin : Reading → List Val → Fo → Type 0
  FoWithin r binders (fo.And parts) = FosWithin r binders parts
  FoWithin r binders (fo.Or parts) = FosWithin r binders parts
  FoWithin r binders (fo.Not f) = FoWithin r binders f
  FoWithin r binders (fo.Implies f g) = FoWithin r binders f × FoWithin r binders g
  FoWithin r binders (fo.All over body) = (n : ℕ) → n < bound r.parts over → is_in_range r.parts over n ≡ true → FoWithin r (member over n ∷ binders) body
  FoWithin r binders (fo.Any over body) = (n : ℕ) → n < bound r.parts over → is_in_range r.parts over n ≡ true → FoWithin r (member over n ∷ binders) body
  FoWithin r binders (fo.Holds e) = ExWithin r binders e
  FoWithin r binders (fo.Equal a b) = ExWithin r binders a × ExWithin r binders b
  FoWithin r binders (fo.Less a b) = ExWithin r binders a × ExWithin r binders b
  FoWithin r binders (fo.AtMost a b) = ExWithin r binders a × ExWithin r binders b
  FoWithin r binders (fo.Visible call) = ExWithin r binders call
  FoWithin r binders (fo.Before a b) = ExWithin r binders a × ExWithin r binders b
  FoWithin r binders (fo.Same a b) = ExWithin r binders a × ExWithin r binders b
  FoWithin r binders (fo.Match on arms) = ExWithin r binders on × ArmWithin r binders (value r binders on) arms

  pub FosWithin : Reading → List Val → Fos → Type 0
  FosWithin r binders no_fo = Unit
  FosWithin r binders (also_fo f fs) = FoWithin r binders f × FosWithin r binders fs

  -- of the arm of the constructor that the value is built with
  pub ArmWithin : Reading → List Val → Val → Arms → Type 0
  ArmWithin r binders v no_arm = Unit
  ArmWithin r binders v (also_arm con body rest) =
      (is_built con v ≡ true → FoWithin r (bind_fields v binders) body) × (is_built con v ≡ false → ArmWithin r binders v rest)

-- of each that a quantifier ranges over
abbrev pub EachWithin : Reading → List Val → Ty → Fo → Type 0
EachWithin r binders over body = (n : ℕ) → n < bound r.parts over → is_in_range r.parts over n ≡ true → FoWithin r (member over n ∷ binders) body
