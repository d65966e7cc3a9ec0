-- The sorts of terms, and well sorted formulas.
use Rattle.std.specs.Prelude.{◌≡◌, ◌<◌, IsTrue, ℕ, Bool, true, false, ◌&&◌, ◌==◌, nat_lt, if◌then◌else◌, List, [], ◌∷◌, length, slice_get, Option, Some, None}
use Rattle.std.specs.Option.{option_or}
use Rattle.rp_logic.specs.declared.sort.FnDecl.{FnDecl}
use Rattle.rp_logic.specs.declared.sort.LogicCon.{LogicCon}
use Rattle.rp_logic.specs.declared.sort.NewConst.{NewConst}
use Rattle.rp_logic.specs.Terms.{Tm, Var, Const, Fn, Int, Str, Con, Sel, Plus, Tms, no_tm, also_tm, At, Equal, Le, Rel}
use Rattle.rp_logic.specs.Formulas.{Fm, And, Or, All, Ex, Lit, Fms, no_fm, also_fm}
use Rattle.rp_logic.specs.Signatures.{Signature, is_int, is_str, is_con_of, fields_of}

-- # Sorts of symbols

-- the sort of an added constant: of several with one number the last counts
abbrev pub added_sort : List NewConst → ℕ → Option ℕ
added_sort [] c = None
added_sort (new ∷ added) c = option_or (added_sort added c) (if new.number == c then Some new.sort else None)

-- the constants of the signature, and those that were added
abbrev pub const_sort : Signature → List NewConst → ℕ → Option ℕ
const_sort S added c = if nat_lt c (length S.consts) then slice_get S.consts c else added_sort added c

abbrev pub is_sort : Option ℕ → ℕ → Bool
is_sort None s = false
is_sort (Some r) s = r == s

abbrev pub gives : Option FnDecl → ℕ → Bool
gives None s = false
gives (Some decl) s = decl.result == s

abbrev pub takes : Option FnDecl → List ℕ
takes None = []
takes (Some decl) = decl.args

abbrev pub sort_of_con : Option LogicCon → ℕ
sort_of_con None = 0
sort_of_con (Some con) = con.sort

-- # Terms

-- The term has the sort, where the open variables have those of the scope, the innermost first.
abbrev mutual
  pub has_sort : Signature → List NewConst → List ℕ → ℕ → Tm → Bool
  has_sort S added scope s (Var n) = is_sort (slice_get scope n) s
  has_sort S added scope s (Const c) = is_sort (const_sort S added c) s
  has_sort S added scope s (Fn f args) = gives (slice_get S.fns f) s && have_sorts S added scope (takes (slice_get S.fns f)) args
  has_sort S added scope s (Int n) = is_int (slice_get S.sorts s)
  has_sort S added scope s (Str bytes) = is_str (slice_get S.sorts s)
  has_sort S added scope s (Con con args) = is_con_of (slice_get S.cons con) s && have_sorts S added scope (fields_of (slice_get S.cons con)) args
  has_sort S added scope s (Sel con i t) =
      is_sort (slice_get (fields_of (slice_get S.cons con)) i) s && has_sort S added scope (sort_of_con (slice_get S.cons con)) t
  has_sort S added scope s (Plus t n) = is_int (slice_get S.sorts s) && has_sort S added scope s t

  -- the terms are as many as the sorts, and have them in order
  pub have_sorts : Signature → List NewConst → List ℕ → List ℕ → Tms → Bool
  have_sorts S added scope [] no_tm = true
  have_sorts S added scope [] (also_tm t ts) = false
  have_sorts S added scope (s ∷ sorts) no_tm = false
  have_sorts S added scope (s ∷ sorts) (also_tm t ts) = has_sort S added scope s t && have_sorts S added scope sorts ts

abbrev pub IsNumber : Signature → List NewConst → List ℕ → Tm → Type 0
IsNumber S added scope t = (s : ℕ) × IsTrue (is_int (slice_get S.sorts s)) × IsTrue (has_sort S added scope s t)

-- # Formulas

-- both sides of an equality have one sort, those of an order are numbers, and a relation is over its sorts
abbrev pub IsSortedAtom : Signature → List NewConst → List ℕ → At → Type 0
IsSortedAtom S added scope (Equal a b) = (s : ℕ) × IsTrue (has_sort S added scope s a) × IsTrue (has_sort S added scope s b)
IsSortedAtom S added scope (Le a b k) = IsNumber S added scope a × IsNumber S added scope b
IsSortedAtom S added scope (Rel r args) = (sorts : List ℕ) × (slice_get S.rels r ≡ Some sorts) × IsTrue (have_sorts S added scope sorts args)

abbrev mutual
  pub IsSorted : Signature → List NewConst → List ℕ → Fm → Type 0
  IsSorted S added scope (And parts) = AreSorted S added scope parts
  IsSorted S added scope (Or parts) = AreSorted S added scope parts
  IsSorted S added scope (All sort body) = (sort < length S.sorts) × IsSorted S added (sort ∷ scope) body
  IsSorted S added scope (Ex sort body) = (sort < length S.sorts) × IsSorted S added (sort ∷ scope) body
  IsSorted S added scope (Lit sign atom) = IsSortedAtom S added scope atom

  pub AreSorted : Signature → List NewConst → List ℕ → Fms → Type 0
  AreSorted S added scope no_fm = Unit {0}
  AreSorted S added scope (also_fm f fs) = IsSorted S added scope f × AreSorted S added scope fs

-- a closed formula over the signature
abbrev pub IsWellSorted : Signature → Fm → Type 0
IsWellSorted S f = IsSorted S [] [] f
