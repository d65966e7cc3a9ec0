-- Sorts, tested: a term is tested at the only sort that one of its form can have.
use Rattle.std.specs.Prelude.{ℕ, Bool, false, ◌&&◌, List, slice_get, Option, Some, None}
use Rattle.std.specs.List.{position_from}
use Rattle.rp_logic.specs.declared.sort.FnDecl.{FnDecl}
use Rattle.rp_logic.specs.declared.sort.LogicCon.{LogicCon}
use Rattle.rp_logic.specs.declared.sort.NewConst.{NewConst}
use Rattle.rp_logic.specs.Terms.{Tm, Var, Const, Fn, Int, Str, Con, Sel, Plus, Tms, At, Equal, Le, Rel}
use Rattle.rp_logic.specs.Signatures.{Signature, is_int, is_str, fields_of}
use Rattle.rp_logic.specs.Sorted.{const_sort, has_sort, have_sorts}

abbrev pub int_sort : Signature → Option ℕ
int_sort S = position_from (λ sort. is_int (Some sort)) 0 S.sorts

abbrev pub str_sort : Signature → Option ℕ
str_sort S = position_from (λ sort. is_str (Some sort)) 0 S.sorts

abbrev pub result_of : Option FnDecl → Option ℕ
result_of None = None
result_of (Some decl) = Some decl.result

abbrev pub datatype_of : Option LogicCon → Option ℕ
datatype_of None = None
datatype_of (Some con) = Some con.sort

abbrev pub head_sort : Signature → List NewConst → List ℕ → Tm → Option ℕ
head_sort S added scope (Var n) = slice_get scope n
head_sort S added scope (Const c) = const_sort S added c
head_sort S added scope (Fn f args) = result_of (slice_get S.fns f)
head_sort S added scope (Int n) = int_sort S
head_sort S added scope (Str bytes) = str_sort S
head_sort S added scope (Con con args) = datatype_of (slice_get S.cons con)
head_sort S added scope (Sel con i t) = slice_get (fields_of (slice_get S.cons con)) i
head_sort S added scope (Plus t n) = int_sort S

abbrev pub at_sort : Signature → List NewConst → List ℕ → Option ℕ → Tm → Bool
at_sort S added scope None t = false
at_sort S added scope (Some s) t = has_sort S added scope s t

abbrev pub at_sorts : Signature → List NewConst → List ℕ → Option (List ℕ) → Tms → Bool
at_sorts S added scope None ts = false
at_sorts S added scope (Some sorts) ts = have_sorts S added scope sorts ts

abbrev pub have_one_sort : Signature → List NewConst → List ℕ → Option ℕ → Tm → Tm → Bool
have_one_sort S added scope s a b = at_sort S added scope s a && at_sort S added scope s b

abbrev pub atom_test : Signature → List NewConst → List ℕ → At → Bool
atom_test S added scope (Equal a b) = have_one_sort S added scope (head_sort S added scope a) a b
atom_test S added scope (Le a b k) = have_one_sort S added scope (int_sort S) a b
atom_test S added scope (Rel r args) = at_sorts S added scope (slice_get S.rels r) args
