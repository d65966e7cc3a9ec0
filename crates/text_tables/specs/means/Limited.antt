-- The limits on types, told without the program's tables.
use Rattle.std.specs.Prelude.{ℕ, ◌+◌, Bool, false, ◌||◌, not, List, [], ◌∷◌, codes, flat_map, min, Option, Some, option_and_then, slice_get, unwrap_or}
use Rattle.rp_value.specs.declared.tables.Ty.{Ty}
use Rattle.rp_value.specs.declared.tables.Ty.TheVariants as ty
use Rattle.rp_grammar.specs.Trees.{CrdtTree, CrdtForm, FieldTree, FieldTrees}
use Rattle.rp_lang.specs.declared.limit.LimitName.TheVariants.{PathDepth}
use Rattle.type_rules.specs.declared.kind.Kind.{Kind}
use Rattle.type_rules.specs.Names.{Names, same_name}
use Rattle.type_rules.specs.Matches.{Case, cases_of}
use Rattle.desugaring.specs.Limits.{is_past}
use Rattle.desugaring.specs.Tables.{Tables, ty_of}

-- # Declared types

-- the first constructor is called `none`
abbrev pub begins_with_none : List Case → Bool
begins_with_none [] = false
begins_with_none (c ∷ cs) = same_name c.name (codes "none")

abbrev pub all_cases : Names → Kind → List Case
all_cases n k = unwrap_or (cases_of n k) []

abbrev pub is_declared : Names → Kind → Bool
is_declared n k = not (begins_with_none (all_cases n k))

-- # Parts

abbrev pub fields_of : List Case → List Kind
fields_of cases = flat_map (λ c. c.fields) cases

-- what the values of a type hold
abbrev pub inside : Names → Kind → List Kind
inside n k = fields_of (all_cases n k)

-- of a type, where the parts of datatypes are these; none of another datatype
abbrev pub ty_parts : List ℕ → Ty → Option ℕ
ty_parts rows (ty.Datatype m) = slice_get rows m
ty_parts rows _ = Some 1

abbrev pub parts_told : Tables → List ℕ → Kind → Option ℕ
parts_told t rows k = option_and_then (ty_parts rows) (ty_of t k)

-- with the parts of these types, as far as 1,001
abbrev pub sum_told : Tables → List ℕ → ℕ → List Kind → Option ℕ
sum_told t rows sum [] = Some sum
sum_told t rows sum (k ∷ ks) = option_and_then (λ parts. sum_told t rows (min (sum + parts) 1001) ks) (parts_told t rows k)

-- # Paths

-- some operation or query on the type has a longer path than may be, where the path to the type has so many steps
abbrev mutual
  pub is_long_on : ℕ → CrdtTree → Bool
  is_long_on depth (CrdtTree.node at form) = is_long_at depth form

  pub is_long_at : ℕ → CrdtForm → Bool
  is_long_at depth (CrdtForm.set_aw t) = is_past PathDepth depth
  is_long_at depth (CrdtForm.set_rw t) = is_past PathDepth depth
  is_long_at depth (CrdtForm.reg t) = is_past PathDepth depth
  is_long_at depth (CrdtForm.mv_reg t) = is_past PathDepth depth
  is_long_at depth CrdtForm.counter = is_past PathDepth depth
  is_long_at depth (CrdtForm.map_uw t c) = is_past PathDepth depth || is_long_on (depth + 1) c
  is_long_at depth (CrdtForm.map_dw t c) = is_past PathDepth depth || is_long_on (depth + 1) c
  is_long_at depth (CrdtForm.struct fields) = is_long_in_fields depth fields

  pub is_long_in_fields : ℕ → FieldTrees → Bool
  is_long_in_fields depth FieldTrees.no_fields = false
  is_long_in_fields depth (FieldTrees.more_fields (FieldTree.field x c) fields) =
      is_long_on (depth + 1) c || is_long_in_fields depth fields
