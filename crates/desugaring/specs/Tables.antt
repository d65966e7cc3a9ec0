-- The numbers of a text's types, constructors, operations, queries and procedures, and the tables of its program.
use Rattle.std.specs.Prelude.{ℕ, zero, suc, ◌+◌, true, false, Bool, ◌&&◌, ◌==◌, nat_eq, List, [], ◌∷◌, ◌++◌, map, position, take, length, flat_map, filter_map, codes, Option, Some, None, option_map, option_and_then, unwrap_or, slice_get, if◌then◌else◌}
use Rattle.rp_value.specs.declared.tables.Ty.{Ty}
use Rattle.rp_value.specs.declared.tables.Ty.TheVariants as ty
use Rattle.rp_value.specs.declared.tables.AtomType.{AtomType}
use Rattle.rp_value.specs.declared.tables.DataDecl.{DataDecl}
use Rattle.rp_value.specs.declared.tables.ConDecl.{ConDecl}
use Rattle.rp_value.specs.declared.tables.TypeTable.{TypeTable}
use Rattle.rp_value.specs.declared.tables.ConTable.{ConTable}
use Rattle.rp_grammar.specs.Trees.{PatternTree, CrdtTree, CrdtForm, FieldTree, FieldTrees, ProcTree, DeclTree}
use Rattle.rp_lang.specs.declared.op.OpDecl.{OpDecl}
use Rattle.rp_lang.specs.declared.op.PathStep.{PathStep}
use Rattle.rp_lang.specs.declared.op.PathStep.TheVariants as step
use Rattle.rp_lang.specs.declared.query.QueryDecl.{QueryDecl}
use Rattle.rp_lang.specs.Crdts.{Cr, SetAw, SetRw, Reg, MvReg, Counter, MapUw, MapDw, Struct, CrFields, no_field, also_field}
use Rattle.rp_lang.specs.Programs.{Rt}
use Rattle.rp_lang.specs.FirstForm.{tx}
use Rattle.type_rules.specs.declared.kind.Kind.{Kind}
use Rattle.type_rules.specs.declared.kind.Base.{Base}
use Rattle.type_rules.specs.declared.kind.Base.TheVariants as base
use Rattle.type_rules.specs.Names.{Name, Names, TypeSort, TypeEntry, Declared, same_name, text_of}
use Rattle.type_rules.specs.Kinds.{plain_kind, kind_of}
use Rattle.type_rules.specs.Queries.{names_of}
use Rattle.type_rules.specs.Matches.{cases_of, pattern_name, pattern_vars}
use Rattle.desugaring.specs.Parts.{both, each, all_three}
use Rattle.desugaring.specs.Appearances.{same_kind, datatypes_of}
use Rattle.desugaring.specs.Objects.{KindStep, field, key, PathOp, PathQuery, Root, roots_of, path_ops, path_queries, op_kinds, query_kinds}

pub record Tables : Type 0 where
  pub names : Names
  -- by their numbers
  pub datatypes : List Kind
  pub roots : List Root
  -- those behind `tx`, which is number 0
  pub ops : List PathOp
  pub queries : List PathQuery
  pub procs : List ProcTree

abbrev pub proc_name : ProcTree → Name
proc_name (ProcTree.proc x params result body) = text_of x

abbrev pub proc_in : Declared → Option ProcTree
proc_in (Declared.proc p) = Some p
proc_in _ = None

abbrev pub tables_for : Names → List DeclTree → Tables
tables_for n tree = record {
  names = n;
  datatypes = datatypes_of n tree;
  roots = roots_of n;
  ops = path_ops n;
  queries = path_queries n;
  procs = filter_map (λ entry. proc_in entry.what) n.entries;
}

abbrev pub tables_of : List DeclTree → Tables
tables_of tree = tables_for (names_of tree) tree

abbrev pub proc_number : Tables → Name → Option ℕ
proc_number t x = position (λ p. same_name (proc_name p) x) t.procs

-- # Id types, opaque types and datatypes

abbrev pub atom_in : TypeEntry → Option AtomType
atom_in entry = elim entry.sort [
  | TypeSort.id_type ↦ Some (record { name = entry.name; is_id = true })
  | TypeSort.opaque ↦ Some (record { name = entry.name; is_id = false })
  | TypeSort.datatype cons ↦ None
]

-- id and opaque types, in the order of the text
abbrev pub atoms : List TypeEntry → List AtomType
atoms types = filter_map atom_in types

-- so many of them are declared before the type
abbrev pub atom_number : Names → ℕ → ℕ
atom_number n type = length (atoms (take type n.types))

abbrev pub datatype_number : Tables → Kind → Option ℕ
datatype_number t k = position (same_kind k) t.datatypes

abbrev pub datatype_ty : Tables → Kind → Option Ty
datatype_ty t k = option_map ty.Datatype (datatype_number t k)

abbrev pub sort_ty : Tables → ℕ → TypeSort → Option Ty
sort_ty t type TypeSort.id_type = Some (ty.Atom (atom_number t.names type))
sort_ty t type TypeSort.opaque = Some (ty.Atom (atom_number t.names type))
sort_ty t type (TypeSort.datatype cons) = datatype_ty t (plain_kind (base.Declared type))

abbrev pub base_ty : Tables → Base → Option Ty
base_ty t base.Bool = datatype_ty t (plain_kind base.Bool)
base_ty t base.Int = Some ty.Int
base_ty t base.Text = Some ty.Str
base_ty t (base.Declared type) = option_and_then (λ entry. sort_ty t type entry.sort) (slice_get t.names.types type)
base_ty t base.Call = Some ty.Call
base_ty t base.Invocation = Some ty.Inv
base_ty t base.Operation = Some ty.Operation
base_ty t base.Info = Some ty.Info
base_ty t base.Outcome = Some ty.Outcome
base_ty t base.Unknown = None
base_ty t base.Open = None

-- the type in the program's numbers
abbrev pub ty_of : Tables → Kind → Option Ty
ty_of t k = if nat_eq k.maybes 0 then base_ty t k.base else datatype_ty t k

-- # Constructors: in the order of their datatypes, those of one in the order of its declaration

pub record Con : Type 0 where
  pub name : Name
  pub of : Kind
  pub fields : List Kind

abbrev pub cons_of : Names → Kind → List Con
cons_of n k = map (λ c. record { name = c.name; of = k; fields = c.fields }) (unwrap_or (cases_of n k) [])

abbrev pub cons : Tables → List Con
cons t = flat_map (cons_of t.names) t.datatypes

-- the datatype's constructor of this name
abbrev pub con_number : Tables → Kind → Name → Option ℕ
con_number t k x = position (λ c. same_kind c.of k && same_name c.name x) (cons t)

abbrev pub has_fields : ℕ → Option Con → Bool
has_fields many None = false
has_fields many (Some c) = length c.fields == many

abbrev pub with_fields : ℕ → List Con → ℕ → Option ℕ
with_fields many cons n = if has_fields many (slice_get cons n) then Some n else None

-- the datatype's constructor of a pattern's name, where it has as many fields as the pattern has variables
abbrev pub arm_number : Tables → Kind → PatternTree → Option ℕ
arm_number t k p = option_and_then (with_fields (length (pattern_vars p)) (cons t)) (con_number t k (pattern_name p))

-- # The tables of types and constructors

abbrev pub entry_name : Option TypeEntry → Name
entry_name None = []
entry_name (Some entry) = entry.name

abbrev pub base_text : Names → Base → List ℕ
base_text n base.Bool = codes "Bool"
base_text n base.Int = codes "Int"
base_text n base.Text = codes "String"
base_text n (base.Declared type) = entry_name (slice_get n.types type)
base_text n _ = []

-- a type as a text writes it
abbrev pub maybe_text : Names → Base → ℕ → List ℕ
maybe_text n b zero = base_text n b
maybe_text n b (suc m) = codes "Maybe[" ++ maybe_text n b m ++ codes "]"

abbrev pub kind_text : Names → Kind → List ℕ
kind_text n k = maybe_text n k.base k.maybes

-- so many numbers, from one on
abbrev pub up_from : ℕ → ℕ → List ℕ
up_from next zero = []
up_from next (suc m) = next ∷ up_from (next + 1) m

-- these datatypes, whose constructors are the next ones
abbrev pub data_decls : Names → ℕ → List Kind → List DataDecl
data_decls n next [] = []
data_decls n next (k ∷ ks) =
    record { name = kind_text n k; cons = up_from next (length (cons_of n k)) } ∷ data_decls n (next + length (cons_of n k)) ks

abbrev pub type_table : Tables → TypeTable
type_table t = record { atoms = atoms t.names.types; datatypes = data_decls t.names 0 t.datatypes }

abbrev pub con_of : Name → ℕ → List Ty → ConDecl
con_of name of fields = record { name = name; of = of; fields = fields }

abbrev pub con_decl : Tables → Con → Option ConDecl
con_decl t c = both (con_of c.name) (datatype_number t c.of) (each (ty_of t) c.fields)

abbrev pub table_with : List ConDecl → ConTable
table_with list = record { cons = list }

abbrev pub con_table : Tables → Option ConTable
con_table t = option_map table_with (each (con_decl t) (cons t))

-- # Roots, operations and queries

abbrev mutual
  pub cr_of : Tables → CrdtTree → Option Cr
  cr_of t (CrdtTree.node at form) = form_cr t form

  pub form_cr : Tables → CrdtForm → Option Cr
  form_cr t (CrdtForm.set_aw e) = option_map SetAw (ty_of t (kind_of t.names e))
  form_cr t (CrdtForm.set_rw e) = option_map SetRw (ty_of t (kind_of t.names e))
  form_cr t (CrdtForm.reg e) = option_map Reg (ty_of t (kind_of t.names e))
  form_cr t (CrdtForm.mv_reg e) = option_map MvReg (ty_of t (kind_of t.names e))
  form_cr t CrdtForm.counter = Some Counter
  form_cr t (CrdtForm.map_uw k c) = both MapUw (ty_of t (kind_of t.names k)) (cr_of t c)
  form_cr t (CrdtForm.map_dw k c) = both MapDw (ty_of t (kind_of t.names k)) (cr_of t c)
  form_cr t (CrdtForm.struct fields) = option_map Struct (fields_cr t fields)

  pub fields_cr : Tables → FieldTrees → Option CrFields
  fields_cr t FieldTrees.no_fields = Some no_field
  fields_cr t (FieldTrees.more_fields (FieldTree.field x c) fields) =
      both (also_field (text_of x)) (cr_of t c) (fields_cr t fields)

abbrev pub root_with : Name → Cr → Rt
root_with name crdt = record { name = name; crdt = crdt }

abbrev pub root_of : Tables → Root → Option Rt
root_of t root = option_map (root_with root.name) (cr_of t root.crdt)

abbrev pub step_of : Tables → KindStep → Option PathStep
step_of t (field k) = Some (step.Field k)
step_of t (key kind) = option_map step.Key (ty_of t kind)

abbrev pub op_with : PathOp → List PathStep → List Ty → OpDecl
op_with o path args = record { root = o.root; path = path; kind = o.own.kind; args = args }

abbrev pub op_decl : Tables → PathOp → Option OpDecl
op_decl t o = both (op_with o) (each (step_of t) o.path) (each (ty_of t) (op_kinds o))

abbrev pub query_with : PathQuery → List PathStep → List Ty → Ty → QueryDecl
query_with q path args result = record { root = q.root; path = path; kind = q.own.kind; args = args; result = result }

abbrev pub query_decl : Tables → PathQuery → Option QueryDecl
query_decl t q = all_three (query_with q) (each (step_of t) q.path) (each (ty_of t) (query_kinds q)) (ty_of t q.own.result)

abbrev pub root_table : Tables → Option (List Rt)
root_table t = each (root_of t) t.roots

abbrev pub op_table : Tables → Option (List OpDecl)
op_table t = option_map (λ ops. tx ∷ ops) (each (op_decl t) t.ops)

abbrev pub query_table : Tables → Option (List QueryDecl)
query_table t = each (query_decl t) t.queries
