-- The constructors that a `match` has an arm for, and the variables of a pattern.
use Rattle.std.specs.Prelude.{zero, suc, true, ◌&&◌, ◌==◌, List, [], ◌∷◌, ◌++◌, map, codes, Option, Some, None, slice_get, if◌then◌else◌}
use Rattle.rp_grammar.specs.Trees.{Ident, PatternTree, ConTree}
use Rattle.type_rules.specs.declared.kind.Kind.{Kind}
use Rattle.type_rules.specs.declared.kind.Base.{Base}
use Rattle.type_rules.specs.declared.kind.Base.TheVariants as base
use Rattle.type_rules.specs.Names.{Name, Names, TypeSort, TypeEntry, same_name, text_of, con_name, con_fields}
use Rattle.type_rules.specs.Kinds.{unknown_kind, is_open, param_kinds}
use Rattle.type_rules.specs.Accesses.{Var}
use Rattle.type_rules.specs.Sites.{Site}

-- a constructor and the types of its fields
pub record Case : Type 0 where
  pub name : Name
  pub fields : List Kind

abbrev pub case : Name → List Kind → Case
case x fields = record { name = x; fields = fields }

abbrev pub bool_cases : List Case
bool_cases = case (codes "false") [] ∷ case (codes "true") [] ∷ []

abbrev pub maybe_cases : Kind → List Case
maybe_cases k = case (codes "none") [] ∷ case (codes "some") (k ∷ []) ∷ []

abbrev pub con_case : Names → ConTree → Case
con_case n c = case (text_of (con_name c)) (param_kinds n (con_fields c))

abbrev pub sort_cases : Names → TypeSort → Option (List Case)
sort_cases n TypeSort.id_type = None
sort_cases n TypeSort.opaque = None
sort_cases n (TypeSort.datatype cons) = Some (map (con_case n) cons)

abbrev pub declared_cases : Names → Option TypeEntry → Option (List Case)
declared_cases n None = None
declared_cases n (Some e) = sort_cases n e.sort

abbrev pub base_cases : Names → Base → Option (List Case)
base_cases n base.Bool = Some bool_cases
base_cases n (base.Declared type) = declared_cases n (slice_get n.types type)
base_cases n base.Int = None
base_cases n base.Text = None
base_cases n base.Call = None
base_cases n base.Invocation = None
base_cases n base.Operation = None
base_cases n base.Info = None
base_cases n base.Outcome = None
base_cases n base.Unknown = None
base_cases n base.Open = None

-- the constructors of a datatype, `Bool` and the `Maybe` types among them; none where it is no datatype, or unknown, or that of
-- a `none` of which no type is asked
abbrev pub cases_of : Names → Kind → Option (List Case)
cases_of n k = elim k.maybes [ zero ↦ base_cases n k.base | suc m ↦ if is_open k.base && m == 0 then None else Some (maybe_cases (record { base = k.base; maybes = m })) ]

abbrev pub find_case : List Case → Name → Option Case
find_case [] x = None
find_case (c ∷ cs) x = if same_name c.name x then Some c else find_case cs x

abbrev pub case_named : Option (List Case) → Name → Option Case
case_named None x = None
case_named (Some cs) x = find_case cs x

abbrev pub case_fields : Option Case → List Kind
case_fields None = []
case_fields (Some c) = c.fields

-- the types of the variables of a constructor's pattern
abbrev pub pattern_kinds : Names → Kind → Name → List Kind
pattern_kinds n k x = case_fields (case_named (cases_of n k) x)

abbrev pub first_kind : List Kind → Kind
first_kind [] = unknown_kind
first_kind (k ∷ ks) = k

abbrev pub other_kinds : List Kind → List Kind
other_kinds [] = []
other_kinds (k ∷ ks) = ks

-- a variable of a pattern, or a quantified one
abbrev pub bound_var : Ident → Kind → Var
bound_var x k = record { name = text_of x; kind = k; set = true; fixed = true }

-- the variables in sight behind a pattern; one for which there is no field has no known type
abbrev pub with_bound : List Var → List Ident → List Kind → List Var
with_bound vs [] ks = vs
with_bound vs (x ∷ xs) ks = with_bound (vs ++ bound_var x (first_kind ks) ∷ []) xs (other_kinds ks)

abbrev pub bound_sites : List Var → List Ident → List Kind → List Site
bound_sites vs [] ks = []
bound_sites vs (x ∷ xs) ks = Site.declares vs x ∷ bound_sites (vs ++ bound_var x (first_kind ks) ∷ []) xs (other_kinds ks)

abbrev pub pattern_con : PatternTree → Ident
pattern_con (PatternTree.pattern con vars) = con

abbrev pub pattern_vars : PatternTree → List Ident
pattern_vars (PatternTree.pattern con vars) = vars

abbrev pub pattern_name : PatternTree → Name
pattern_name p = text_of (pattern_con p)
