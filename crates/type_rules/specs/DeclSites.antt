-- The places inside declarations: of datatypes, replicated types, queries, invariants and procedures.
use Rattle.std.specs.Prelude.{ℕ, Bool, true, false, List, [], ◌∷◌, ◌++◌, map, Option, Some, None}
use Rattle.std.specs.Option.{option_map}
use Rattle.rp_grammar.specs.Trees.{Ident, TypeTree, ParamTree, CrdtTree, CrdtForm, FieldTree, FieldTrees, ExprTree, ConTree, QueryTree, ProcTree}
use Rattle.type_rules.specs.declared.role.Role.{Role}
use Rattle.type_rules.specs.declared.role.Role.TheVariants as role
use Rattle.type_rules.specs.Names.{Name, Names, text_of, param_name, param_type}
use Rattle.type_rules.specs.Kinds.{kind_of}
use Rattle.type_rules.specs.Starts.{brace_of}
use Rattle.type_rules.specs.Accesses.{Var}
use Rattle.type_rules.specs.Queries.{param_var, param_vars}
use Rattle.type_rules.specs.Sites.{Scope, Site}
use Rattle.type_rules.specs.ExprSites.{asks, bool_whole, expr_sites}
use Rattle.type_rules.specs.Flow.{Sight, after_block}
use Rattle.type_rules.specs.StmtSites.{Frame, block_sites, is_there}

-- names that have to differ from each other and from those before
abbrev pub named_all : List Name → List Ident → List Site
named_all before [] = []
named_all before (x ∷ xs) = Site.named before x ∷ named_all (text_of x ∷ before) xs

-- # Types and parameters

abbrev pub written_all : ℕ → Role → List ParamTree → List Site
written_all k r params = map (λ p. Site.written k r (param_type p)) params

-- parameters as variables
abbrev pub declares_all : Names → List Var → List ParamTree → List Site
declares_all n vs [] = []
declares_all n vs (p ∷ params) = Site.declares vs (param_name p) ∷ declares_all n (vs ++ param_var n p ∷ []) params

abbrev pub param_sites : Names → ℕ → Role → List ParamTree → List Site
param_sites n k r params = named_all [] (map param_name params) ++ declares_all n [] params ++ written_all k r params

abbrev pub con_sites : ℕ → List ConTree → List Site
con_sites k [] = []
con_sites k (ConTree.con x fields ∷ cons) = named_all [] (map param_name fields) ++ written_all k role.Field fields ++ con_sites k cons

abbrev pub field_names : FieldTrees → List Ident
field_names FieldTrees.no_fields = []
field_names (FieldTrees.more_fields (FieldTree.field x c) fields) = x ∷ field_names fields

abbrev mutual
  pub crdt_sites : ℕ → CrdtTree → List Site
  crdt_sites k (CrdtTree.node at form) = crdt_form_sites k form

  pub crdt_form_sites : ℕ → CrdtForm → List Site
  crdt_form_sites k (CrdtForm.set_aw t) = Site.written k role.Field t ∷ []
  crdt_form_sites k (CrdtForm.set_rw t) = Site.written k role.Field t ∷ []
  crdt_form_sites k (CrdtForm.reg t) = Site.written k role.Field t ∷ []
  crdt_form_sites k (CrdtForm.mv_reg t) = Site.written k role.Field t ∷ []
  crdt_form_sites k CrdtForm.counter = []
  crdt_form_sites k (CrdtForm.map_uw t c) = Site.written k role.Field t ∷ crdt_sites k c
  crdt_form_sites k (CrdtForm.map_dw t c) = Site.written k role.Field t ∷ crdt_sites k c
  crdt_form_sites k (CrdtForm.struct fields) = named_all [] (field_names fields) ++ fields_sites k fields

  pub fields_sites : ℕ → FieldTrees → List Site
  fields_sites k FieldTrees.no_fields = []
  fields_sites k (FieldTrees.more_fields (FieldTree.field x c) fields) = crdt_sites k c ++ fields_sites k fields

-- # Expressions and procedures

-- the words on calls and invocations may stand in it
abbrev pub scope_for : Names → ℕ → Bool → List ParamTree → Scope
scope_for n k words params = record { vars = param_vars n params; later = []; decl = k; words = words }

abbrev pub query_sites : Names → ℕ → Bool → QueryTree → List Site
query_sites n k words (QueryTree.query x params result body) =
    param_sites n k role.QueryParam params
    ++ Site.written k role.QueryResult result
    ∷ expr_sites n (scope_for n k words params) (asks 21 (kind_of n result)) body

abbrev pub result_sites : ℕ → Option TypeTree → List Site
result_sites k None = []
result_sites k (Some t) = Site.written k role.Variable t ∷ []

abbrev pub frame_for : Names → ℕ → Option TypeTree → Frame
frame_for n k result = record { decl = k; result = option_map (kind_of n) result; inside_atomic = false; later = [] }

abbrev pub sight_for : Names → List ParamTree → Sight
sight_for n params = record { vars = param_vars n params; live = true }

abbrev pub proc_sites : Names → ℕ → ProcTree → List Site
proc_sites n k (ProcTree.proc x params result body) =
    param_sites n k role.Variable params
    ++ result_sites k result
    ++ block_sites n (frame_for n k result) (sight_for n params) body
    ++ Site.closes (after_block n (sight_for n params) body).live (is_there result) (brace_of body) ∷ []

abbrev pub invariant_sites : Names → ℕ → ExprTree → List Site
invariant_sites n k e = expr_sites n (scope_for n k true []) bool_whole e
