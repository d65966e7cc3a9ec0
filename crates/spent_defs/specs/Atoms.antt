-- The atoms of a quantifier's body, and its variable in them.
use Rattle.std.specs.Prelude.{ℕ, suc, Bool, false, ◌||◌, ◌==◌}
use Rattle.rp_logic.specs.Terms.{Tm, Var, Const, Fn, Int, Str, Con, Sel, Plus, Tms, no_tm, also_tm, At}
use Rattle.rp_logic.specs.Formulas.{Fm, And, Or, All, Ex, Lit, Fms, no_fm, also_fm}
use Rattle.refute_defs.specs.Parts.{atom_args}

-- the k-th enclosing variable stands in the term
abbrev mutual
  pub holds_var : ℕ → Tm → Bool
  holds_var k (Var n) = n == k
  holds_var k (Const c) = false
  holds_var k (Fn f ts) = some_hold_var k ts
  holds_var k (Int n) = false
  holds_var k (Str bytes) = false
  holds_var k (Con con ts) = some_hold_var k ts
  holds_var k (Sel con i t) = holds_var k t
  holds_var k (Plus t n) = holds_var k t

  pub some_hold_var : ℕ → Tms → Bool
  some_hold_var k no_tm = false
  some_hold_var k (also_tm t ts) = holds_var k t || some_hold_var k ts

abbrev pub atom_holds_var : ℕ → At → Bool
atom_holds_var k a = some_hold_var k (atom_args a)

-- An atom of the formula passes the test, which knows under how many of the formula's own
-- quantifiers it stands beside k others.
abbrev mutual
  pub some_atom : (ℕ → At → Bool) → ℕ → Fm → Bool
  some_atom test k (And parts) = some_atom_of test k parts
  some_atom test k (Or parts) = some_atom_of test k parts
  some_atom test k (All sort body) = some_atom test (suc k) body
  some_atom test k (Ex sort body) = some_atom test (suc k) body
  some_atom test k (Lit sign atom) = test k atom

  pub some_atom_of : (ℕ → At → Bool) → ℕ → Fms → Bool
  some_atom_of test k no_fm = false
  some_atom_of test k (also_fm f fs) = some_atom test k f || some_atom_of test k fs

-- a quantifier's variable stands in its body
abbrev pub uses_var : Fm → Bool
uses_var body = some_atom atom_holds_var 0 body
