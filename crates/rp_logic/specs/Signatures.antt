-- Signatures, and what each keeps.
use Rattle.std.specs.Prelude.{ℕ, suc, Bool, true, false, not, ◌&&◌, ◌==◌, nat_lt, nat_le, List, [], ◌∷◌, length, slice_get, Option, Some, None}
use Rattle.std.specs.List.{list_all, list_any, count_by}
use Rattle.rp_logic.specs.declared.sort.Sort.{Sort}
use Rattle.rp_logic.specs.declared.sort.Sort.TheVariants.{Plain, Int, Str, Datatype}
use Rattle.rp_logic.specs.declared.sort.FnDecl.{FnDecl}
use Rattle.rp_logic.specs.declared.sort.LogicCon.{LogicCon}

pub record Signature : Type 0 where
  pub sorts : List Sort
  -- the sort of each constant
  pub consts : List ℕ
  pub fns : List FnDecl
  -- the sorts of each relation's arguments
  pub rels : List (List ℕ)
  pub cons : List LogicCon

-- # Sorts and constructors by their numbers

abbrev pub is_plain : Option Sort → Bool
is_plain (Some Plain) = true
is_plain _ = false

abbrev pub is_int : Option Sort → Bool
is_int (Some Int) = true
is_int _ = false

abbrev pub is_str : Option Sort → Bool
is_str (Some Str) = true
is_str _ = false

-- the constructors that a sort lists: none unless it is a datatype
abbrev pub listed : Option Sort → List ℕ
listed (Some (Datatype cons)) = cons
listed _ = []

abbrev pub is_con_of : Option LogicCon → ℕ → Bool
is_con_of None s = false
is_con_of (Some con) s = con.sort == s

abbrev pub fields_of : Option LogicCon → List ℕ
fields_of None = []
fields_of (Some con) = con.args

-- # What is kept

-- each number is below n
abbrev pub are_below : ℕ → List ℕ → Bool
are_below n numbers = list_all (λ k. nat_lt k n) numbers

abbrev pub is_fn_within : ℕ → FnDecl → Bool
is_fn_within sorts decl = are_below sorts decl.args && nat_lt decl.result sorts

abbrev pub is_con_within : ℕ → LogicCon → Bool
is_con_within sorts con = nat_lt con.sort sorts && are_below sorts con.args

abbrev pub contains : List ℕ → ℕ → Bool
contains numbers n = list_any (λ k. k == n) numbers

abbrev pub are_distinct : List ℕ → Bool
are_distinct [] = true
are_distinct (n ∷ numbers) = not (contains numbers n) && are_distinct numbers

-- constructors of the sort, each once
abbrev pub are_own : List LogicCon → ℕ → List ℕ → Bool
are_own cons s numbers = list_all (λ c. is_con_of (slice_get cons c) s) numbers && are_distinct numbers

-- each of these sorts, the first of number s, lists constructors of its own, each once
abbrev pub list_their_own : List LogicCon → ℕ → List Sort → Bool
list_their_own cons s [] = true
list_their_own cons s (sort ∷ sorts) = are_own cons s (listed (Some sort)) && list_their_own cons (suc s) sorts

-- each of these constructors, the first of number c, is listed by its sort, which is so a datatype
abbrev pub are_listed : List Sort → ℕ → List LogicCon → Bool
are_listed sorts c [] = true
are_listed sorts c (con ∷ cons) = contains (listed (slice_get sorts con.sort)) c && are_listed sorts (suc c) cons

-- the sorts that are named exist
abbrev pub are_of_sorts : ℕ → List ℕ → List FnDecl → List (List ℕ) → List LogicCon → Bool
are_of_sorts sorts consts fns rels cons =
    are_below sorts consts && list_all (is_fn_within sorts) fns && list_all (are_below sorts) rels && list_all (is_con_within sorts) cons

abbrev pub has_one_int_and_str : List Sort → Bool
has_one_int_and_str sorts = nat_le (count_by (λ sort. is_int (Some sort)) sorts) 1 && nat_le (count_by (λ sort. is_str (Some sort)) sorts) 1

-- The numbers are in range, at most one sort is `Int` and at most one is `Str`, the sort of each constructor is a
-- datatype, and a datatype lists exactly its constructors, each once.
abbrev pub is_signature : List Sort → List ℕ → List FnDecl → List (List ℕ) → List LogicCon → Bool
is_signature sorts consts fns rels cons =
    are_of_sorts (length sorts) consts fns rels cons && has_one_int_and_str sorts && list_their_own cons 0 sorts && are_listed sorts 0 cons
