-- Terms in place of variables, all at once. The terms may have open variables.
use Rattle.std.specs.Prelude.{◌≡◌, ◌↔◌, IsTrue, ℕ, zero, suc, ◌+◌, List, get_or, slice_get, Some}
use Rattle.rp_logic.specs.declared.sort.NewConst.{NewConst}
use Rattle.rp_logic.specs.Terms.{Tm, Var, Const, Fn, Int, Str, Con, Sel, Plus, Tms, no_tm, also_tm, At, Equal, Le, Rel}
use Rattle.rp_logic.specs.Formulas.{Fm, And, Or, All, Ex, Lit, Fms, no_fm, also_fm}
use Rattle.rp_logic.specs.Elements.{Elem, junk}
use Rattle.rp_logic.specs.Structures.{Structure, Fits, is_elem}
use Rattle.rp_logic.specs.Signatures.{Signature}
use Rattle.rp_logic.specs.Sorted.{has_sort}
use Rattle.rp_logic.specs.Truth.{Meaning, meaning_with, value, Holds}

-- for the n-th enclosing variable the n-th of these terms
abbrev mutual
  pub filled : (ℕ → Tm) → Tm → Tm
  filled s (Var n) = s n
  filled s (Const c) = Const c
  filled s (Fn f args) = Fn f (filled_each s args)
  filled s (Int n) = Int n
  filled s (Str bytes) = Str bytes
  filled s (Con con args) = Con con (filled_each s args)
  filled s (Sel con i u) = Sel con i (filled s u)
  filled s (Plus u n) = Plus (filled s u) n

  pub filled_each : (ℕ → Tm) → Tms → Tms
  filled_each s no_tm = no_tm
  filled_each s (also_tm t ts) = also_tm (filled s t) (filled_each s ts)

-- the term where k more variables are open, which are nearer
abbrev pub raised : ℕ → Tm → Tm
raised k t = filled (λ n. Var (n + k)) t

abbrev pub raised_each : ℕ → Tms → Tms
raised_each k ts = filled_each (λ n. Var (n + k)) ts

-- under one more variable
abbrev pub inside : (ℕ → Tm) → ℕ → Tm
inside s zero = Var 0
inside s (suc n) = raised 1 (s n)

abbrev pub filled_atom : (ℕ → Tm) → At → At
filled_atom s (Equal a b) = Equal (filled s a) (filled s b)
filled_atom s (Le a b k) = Le (filled s a) (filled s b) k
filled_atom s (Rel r args) = Rel r (filled_each s args)

abbrev mutual
  pub filled_in : (ℕ → Tm) → Fm → Fm
  filled_in s (And parts) = And (filled_ins s parts)
  filled_in s (Or parts) = Or (filled_ins s parts)
  filled_in s (All sort body) = All sort (filled_in (inside s) body)
  filled_in s (Ex sort body) = Ex sort (filled_in (inside s) body)
  filled_in s (Lit sign atom) = Lit sign (filled_atom s atom)

  pub filled_ins : (ℕ → Tm) → Fms → Fms
  filled_ins s no_fm = no_fm
  filled_ins s (also_fm f fs) = also_fm (filled_in s f) (filled_ins s fs)

-- # Three uses

-- t for the innermost variable, which is gone
abbrev pub instead : Tm → ℕ → Tm
instead t zero = t
instead t (suc n) = Var n

-- the two innermost variables change places
abbrev pub swapped : ℕ → Tm
swapped zero = Var 1
swapped (suc zero) = Var 0
swapped (suc (suc n)) = Var (suc (suc n))

-- one more variable
abbrev pub behind : ℕ → Tm
behind n = Var (suc n)

-- # What laws say

-- at `vars` the terms have the values `others`
abbrev pub Gives : Meaning → (ℕ → Tm) → List Elem → List Elem → Type 0
Gives M s vars others = (n : ℕ) → value M vars (s n) ≡ get_or others n junk

-- the elements are those of the scope's sorts
abbrev pub AreIn : Signature → Structure → List ℕ → List Elem → Type 0
AreIn S M scope vars = (n s : ℕ) → slice_get scope n ≡ Some s → IsTrue (is_elem S M.sizes s (get_or vars n junk))

-- the terms have the sorts of the variables that they stand for
abbrev pub Suits : Signature → List NewConst → List ℕ → List ℕ → (ℕ → Tm) → Type 0
Suits S added scope old s = (n d : ℕ) → slice_get old n ≡ Some d → IsTrue (has_sort S added scope d (s n))

-- Under this scope g is true exactly where f is, in each structure of the signature with any added constants.
abbrev pub MeansSame : Signature → List NewConst → List ℕ → Fm → Fm → Type 0
MeansSame S added scope g f =
    (M : Structure) (consts : ℕ → Elem) → Fits S M consts added → (vars : List Elem) → AreIn S M scope vars
    → Holds (meaning_with S M consts) vars g ↔ Holds (meaning_with S M consts) vars f
