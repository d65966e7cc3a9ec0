-- Which program a text's tree is.
use Rattle.std.specs.Prelude.{◌≡◌, ℕ, ◌+◌, false, List, [], ◌∷◌, ◌++◌, map, length, codes, decimal, Option, Some, None, option_map, option_and_then}
use Rattle.rp_span.specs.declared.Span.{Span}
use Rattle.rp_value.specs.declared.tables.Ty.{Ty}
use Rattle.rp_value.specs.declared.tables.ConTable.{ConTable}
use Rattle.rp_grammar.specs.Trees.{Ident, TypeTree, ExprTree, BlockTree, ProcTree, DeclTree, DeclForm}
use Rattle.rp_lang.specs.declared.op.OpDecl.{OpDecl}
use Rattle.rp_lang.specs.declared.query.QueryDecl.{QueryDecl}
use Rattle.rp_lang.specs.Programs.{Rt, Inv, Proc, Prog}
use Rattle.type_rules.specs.declared.kind.Kind.{Kind}
use Rattle.type_rules.specs.Names.{Name, Names, text_of, param_name}
use Rattle.type_rules.specs.Kinds.{bool_kind, kind_of, param_kinds}
use Rattle.type_rules.specs.Starts.{brace_of}
use Rattle.type_rules.specs.Accesses.{proc_params, proc_result}
use Rattle.type_rules.specs.Faults.{IsLawful}
use Rattle.desugaring.specs.Parts.{both, each, all_three, Pointwise}
use Rattle.desugaring.specs.Tables.{Tables, proc_name, tables_of, type_table, con_table, root_table, op_table, query_table, ty_of}
use Rattle.desugaring.specs.Values.{Value, as_formula}
use Rattle.desugaring.specs.Callees.{Vars}
use Rattle.desugaring.specs.Expressions.{value, uses_before}
use Rattle.desugaring.specs.Meanings.{Means}
use Rattle.desugaring.specs.Statements.{Place, Made, block, slotted}
use Rattle.desugaring.specs.Runs.{BlockRuns}

-- # Invariants

-- an invariant, with the number of its declaration
pub record InvTree : Type 0 where
  pub decl : ℕ
  pub at : Span
  pub name : Name
  pub body : ExprTree

-- An invariant without a name has its number among the invariants, from 1, behind a `#`.
abbrev pub inv_name : ℕ → Option Ident → Name
inv_name number (Some x) = text_of x
inv_name number None = codes "#" ++ decimal number

-- those of the declarations from number k on, of which the first is the invariant of that number
abbrev pub invs_from : ℕ → ℕ → List DeclTree → List InvTree
invs_from k number [] = []
invs_from k number (DeclTree.node at (DeclForm.invariant x e) ∷ ds) =
    record { decl = k; at = at; name = inv_name number x; body = e } ∷ invs_from (k + 1) (number + 1) ds
invs_from k number (d ∷ ds) = invs_from (k + 1) number ds

abbrev pub inv_with : InvTree → Value → Inv
inv_with d v = record { name = d.name; at = d.at; body = as_formula v }

pub data IsInv (t : Tables) : InvTree → Inv → Type 0 where
  inv : {d : InvTree} {v : Value} → Means t d.decl [] (Some bool_kind) d.body v → IsInv t d (inv_with d v)

-- the same, computed
abbrev pub inv_for : Tables → InvTree → Option Inv
inv_for t d = option_map (inv_with d) (value t (uses_before t d.decl) [] (Some bool_kind) d.body)

-- # Procedures

-- a procedure, with the number of its declaration
pub record ProcDecl : Type 0 where
  pub decl : ℕ
  pub at : Span
  pub tree : ProcTree

-- those of the declarations from number k on
abbrev pub procs_from : ℕ → List DeclTree → List ProcDecl
procs_from k [] = []
procs_from k (DeclTree.node at (DeclForm.proc p) ∷ ds) = record { decl = k; at = at; tree = p } ∷ procs_from (k + 1) ds
procs_from k (d ∷ ds) = procs_from (k + 1) ds

abbrev pub proc_body : ProcTree → BlockTree
proc_body (ProcTree.proc x params result body) = body

abbrev pub kinds_of_params : Names → ProcDecl → List Kind
kinds_of_params n d = param_kinds n (proc_params d.tree)

-- the parameters are in the first slots
abbrev pub param_stands : Names → ProcDecl → Vars
param_stands n d = slotted [] 0 (map param_name (proc_params d.tree)) (kinds_of_params n d)

-- outside any atomic block
abbrev pub body_place : Names → ProcDecl → Place
body_place n d = record { result = option_map (kind_of n) (proc_result d.tree); inside_atomic = false }

abbrev pub result_ty : Tables → Option TypeTree → Option (Option Ty)
result_ty t None = Some None
result_ty t (Some ty) = option_map Some (ty_of t (kind_of t.names ty))

pub record IsProc (t : Tables) (d : ProcDecl) (p : Proc) : Type 0 where
  pub name : p.name ≡ proc_name d.tree
  pub at : p.at ≡ d.at
  pub end : p.end ≡ brace_of (proc_body d.tree)
  pub params : each (ty_of t) (kinds_of_params t.names d) ≡ Some p.params
  pub result : result_ty t (proc_result d.tree) ≡ Some p.result
  -- the types of the slots behind the parameters
  pub further : List Kind
  pub runs : BlockRuns t d.decl (body_place t.names d) (param_stands t.names d) (length (proc_params d.tree))
      (proc_body d.tree) p.body further
  pub slots : each (ty_of t) (kinds_of_params t.names d ++ further) ≡ Some p.slots

-- the same, computed

abbrev pub proc_with : ProcDecl → Made → List Ty → Option Ty → List Ty → Proc
proc_with d made params result slots = record {
  name = proc_name d.tree;
  at = d.at;
  end = brace_of (proc_body d.tree);
  params = params;
  result = result;
  slots = slots;
  body = made.body;
}

abbrev pub proc_made : Tables → ProcDecl → Made → Option Proc
proc_made t d made =
    all_three (proc_with d made)
    (each (ty_of t) (kinds_of_params t.names d)) (result_ty t (proc_result d.tree))
    (each (ty_of t) (kinds_of_params t.names d ++ made.slots))

abbrev pub proc_for : Tables → ProcDecl → Option Proc
proc_for t d =
    option_and_then (proc_made t d)
    (block t (uses_before t d.decl) (body_place t.names d) (param_stands t.names d) (length (proc_params d.tree))
    (proc_body d.tree))

-- # The whole program

pub record IsProgram (tree : List DeclTree) (p : Prog) : Type 0 where
  pub types : p.types ≡ type_table (tables_of tree)
  pub cons : con_table (tables_of tree) ≡ Some p.cons
  pub roots : root_table (tables_of tree) ≡ Some p.roots
  pub ops : op_table (tables_of tree) ≡ Some p.ops
  pub queries : query_table (tables_of tree) ≡ Some p.queries
  pub invs : Pointwise (IsInv (tables_of tree)) (invs_from 0 1 tree) p.invs
  pub procs : Pointwise (IsProc (tables_of tree)) (procs_from 0 tree) p.procs

-- every type rule holds, and this is the program
abbrev pub IsProgramOf : List DeclTree → Prog → Type 0
IsProgramOf tree p = IsLawful tree × IsProgram tree p

-- # The same, computed

pub record Schema : Type 0 where
  pub cons : ConTable
  pub roots : List Rt
  pub ops : List OpDecl
  pub queries : List QueryDecl

abbrev pub schema_with : ConTable → List Rt → List OpDecl → List QueryDecl → Schema
schema_with cons roots ops queries = record { cons = cons; roots = roots; ops = ops; queries = queries }

abbrev pub schema_for : Tables → Option Schema
schema_for t =
    both (λ make queries. make queries) (all_three schema_with (con_table t) (root_table t) (op_table t)) (query_table t)

abbrev pub program_with : Tables → Schema → List Inv → List Proc → Prog
program_with t s invs procs = record {
  types = type_table t;
  cons = s.cons;
  roots = s.roots;
  ops = s.ops;
  queries = s.queries;
  invs = invs;
  procs = procs;
}

abbrev pub program_for : Tables → List DeclTree → Option Prog
program_for t tree =
    all_three (program_with t) (schema_for t) (each (inv_for t) (invs_from 0 1 tree)) (each (proc_for t) (procs_from 0 tree))

abbrev pub program_of : List DeclTree → Option Prog
program_of tree = program_for (tables_of tree) tree
