-- Closed terms that stand in formulas: also inside other terms, and under quantifiers.
use Rattle.std.specs.Prelude.{Bool, if◌then◌else◌, List, [], ◌∷◌, ◌++◌, flat_map}
use Rattle.std.specs.List.{list_any}
use Rattle.rp_logic.specs.Terms.{Tm, Var, Const, Fn, Int, Str, Con, Sel, Plus, Tms, no_tm, also_tm, is_closed}
use Rattle.rp_logic.specs.Formulas.{Fm, And, Or, All, Ex, Lit, Fms, no_fm, also_fm}
use Rattle.refute_defs.specs.Branches.{Branch}
use Rattle.refute_defs.specs.Parts.{atom_args}
use Rattle.refute_defs.specs.Same.{same_tm}

-- the term before those inside it, where it is closed
abbrev pub before : Tm → List Tm → List Tm
before t inside = if is_closed t then t ∷ inside else inside

-- as the terms begin in the text, the outer before the inner, each as often as it stands there
abbrev mutual
  pub terms_in : Tm → List Tm
  terms_in (Var n) = []
  terms_in (Const c) = Const c ∷ []
  terms_in (Fn f ts) = before (Fn f ts) (terms_of_each ts)
  terms_in (Int n) = Int n ∷ []
  terms_in (Str bytes) = Str bytes ∷ []
  terms_in (Con con ts) = before (Con con ts) (terms_of_each ts)
  terms_in (Sel con i t) = before (Sel con i t) (terms_in t)
  terms_in (Plus t n) = before (Plus t n) (terms_in t)

  pub terms_of_each : Tms → List Tm
  terms_of_each no_tm = []
  terms_of_each (also_tm t ts) = terms_in t ++ terms_of_each ts

abbrev mutual
  pub terms_of : Fm → List Tm
  terms_of (And parts) = terms_of_parts parts
  terms_of (Or parts) = terms_of_parts parts
  terms_of (All sort body) = terms_of body
  terms_of (Ex sort body) = terms_of body
  terms_of (Lit sign atom) = terms_of_each (atom_args atom)

  pub terms_of_parts : Fms → List Tm
  terms_of_parts no_fm = []
  terms_of_parts (also_fm f fs) = terms_of f ++ terms_of_parts fs

abbrev pub is_among : List Tm → Tm → Bool
is_among ts t = list_any (same_tm t) ts

-- the terms that stand on the branch, in the order in which they appear
abbrev pub standing : Branch → List Tm
standing b = flat_map terms_of b.formulas

abbrev pub stands : Branch → Tm → Bool
stands b t = is_among (standing b) t
