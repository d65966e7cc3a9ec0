-- Constants that stand nowhere in a formula.
use Rattle.std.specs.Prelude.{ℕ, Bool, true, not, if◌then◌else◌, ◌&&◌, ◌==◌, List, [], ◌∷◌}
use Rattle.rp_logic.specs.Terms.{Tm, Var, Const, Fn, Int, Str, Con, Sel, Plus, Tms, no_tm, also_tm, At, Equal, Le, Rel}
use Rattle.rp_logic.specs.Formulas.{Fm, And, Or, All, Ex, Lit, Fms, no_fm, also_fm}
use Rattle.rp_logic.specs.Elements.{Elem}

-- the constant doesn't stand in the term
abbrev mutual
  pub lacks : ℕ → Tm → Bool
  lacks c (Var n) = true
  lacks c (Const d) = not (c == d)
  lacks c (Fn f args) = all_lack c args
  lacks c (Int n) = true
  lacks c (Str bytes) = true
  lacks c (Con con args) = all_lack c args
  lacks c (Sel con i t) = lacks c t
  lacks c (Plus t n) = lacks c t

  pub all_lack : ℕ → Tms → Bool
  all_lack c no_tm = true
  all_lack c (also_tm t ts) = lacks c t && all_lack c ts

abbrev pub atom_lacks : ℕ → At → Bool
atom_lacks c (Equal a b) = lacks c a && lacks c b
atom_lacks c (Le a b k) = lacks c a && lacks c b
atom_lacks c (Rel r args) = all_lack c args

abbrev mutual
  pub formula_lacks : ℕ → Fm → Bool
  formula_lacks c (And parts) = formulas_lack c parts
  formula_lacks c (Or parts) = formulas_lack c parts
  formula_lacks c (All sort body) = formula_lacks c body
  formula_lacks c (Ex sort body) = formula_lacks c body
  formula_lacks c (Lit sign atom) = atom_lacks c atom

  pub formulas_lack : ℕ → Fms → Bool
  formulas_lack c no_fm = true
  formulas_lack c (also_fm f fs) = formula_lacks c f && formulas_lack c fs

abbrev pub each_lacks : ℕ → List Fm → Bool
each_lacks c [] = true
each_lacks c (f ∷ fs) = formula_lacks c f && each_lacks c fs

-- the constants' values with another one at c
abbrev pub with_value : (ℕ → Elem) → ℕ → Elem → ℕ → Elem
with_value k c v d = if c == d then v else k d
