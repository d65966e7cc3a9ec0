-- The signature of a program's formulas.
use Rattle.std.specs.Prelude.{ℕ, zero, suc, ◌+◌, ◌-◌, if◌then◌else◌, List, [], ◌∷◌, ◌++◌, length, map, filter, replicate, Option, Some, None}
use Rattle.rp_value.specs.declared.tables.Ty.{Ty}
use Rattle.rp_value.specs.declared.tables.Ty.TheVariants as ty
use Rattle.rp_value.specs.declared.tables.AtomType.{AtomType}
use Rattle.rp_value.specs.declared.tables.ConDecl.{ConDecl}
use Rattle.rp_value.specs.declared.tables.DataDecl.{DataDecl}
use Rattle.rp_lang.specs.declared.op.OpDecl.{OpDecl}
use Rattle.rp_lang.specs.declared.query.QueryDecl.{QueryDecl}
use Rattle.rp_lang.specs.Typing.{is_get}
use Rattle.rp_lang.specs.Programs.{Prog, Proc}
use Rattle.rp_logic.specs.declared.sort.Sort.{Sort}
use Rattle.rp_logic.specs.declared.sort.Sort.TheVariants as sort
use Rattle.rp_logic.specs.declared.sort.FnDecl.{FnDecl}
use Rattle.rp_logic.specs.declared.sort.LogicCon.{LogicCon}
use Rattle.rp_logic.specs.Signatures.{Signature}
use Rattle.rp_symbols.specs.Numbers.{call_sort, inv_sort, atom_sort, int_sort, str_sort, data_sort, op_sort, info_sort, outcome_sort, op_con, info_con, unreturned_con, outcome_con}

-- # Sorts

-- the sort of a type's elements
abbrev pub sort_of : Prog → Ty → ℕ
sort_of p ty.Int = int_sort p
sort_of p ty.Str = str_sort p
sort_of p (ty.Atom n) = atom_sort n
sort_of p (ty.Datatype d) = data_sort p d
sort_of p ty.Call = call_sort
sort_of p ty.Inv = inv_sort
sort_of p ty.Operation = op_sort p
sort_of p ty.Info = info_sort p
sort_of p ty.Outcome = outcome_sort p

-- so many numbers, from this one on
abbrev pub from : ℕ → ℕ → List ℕ
from n zero = []
from n (suc k) = n ∷ from (suc n) k

-- a sort for each type of atoms, and one for each datatype
abbrev pub atom_sorts : List AtomType → List Sort
atom_sorts atoms = map (λ (atom : AtomType). sort.Plain) atoms

abbrev pub data_sorts : List DataDecl → List Sort
data_sorts datatypes = map (λ (decl : DataDecl). sort.Datatype decl.cons) datatypes

-- the last three sorts: what calls are, what invocations are, what they give
abbrev pub record_sorts : Prog → List Sort
record_sorts p =
    sort.Datatype (from (op_con p 0) (length p.ops))
    ∷ sort.Datatype (from (info_con p 0) (length p.procs))
    ∷ sort.Datatype (unreturned_con p ∷ from (outcome_con p 0) (length p.procs))
    ∷ []

abbrev pub sorts_of : Prog → List Sort
sorts_of p =
    sort.Plain ∷ sort.Plain
    ∷ (atom_sorts p.types.atoms ++ (sort.Int ∷ sort.Str ∷ (data_sorts p.types.datatypes ++ record_sorts p)))

-- # Constructors

abbrev pub con_of : ℕ → List ℕ → LogicCon
con_of datatype args = record { sort = datatype; args = args }

-- what a procedure's outcome is over: its result, where it gives one
abbrev pub result_list : Option Ty → List Ty
result_list None = []
result_list (Some t) = t ∷ []

abbrev pub con_decls : Prog → List LogicCon
con_decls p =
    map (λ (decl : ConDecl). con_of (data_sort p decl.of) (map (sort_of p) decl.fields)) p.cons.cons
    ++ (map (λ (decl : OpDecl). con_of (op_sort p) (map (sort_of p) decl.args)) p.ops
    ++ (map (λ (q : Proc). con_of (info_sort p) (map (sort_of p) q.params)) p.procs
    ++ (con_of (outcome_sort p) []
    ∷ map (λ (q : Proc). con_of (outcome_sort p) (map (sort_of p) (result_list q.result))) p.procs)))

-- # Relations

-- for each type of identifiers: in operations, in arguments, in results
abbrev pub id_decls : ℕ → List AtomType → List (List ℕ)
id_decls ty [] = []
id_decls ty (atom ∷ atoms) =
    let inv = inv_sort ∷ atom_sort ty ∷ [] in
    (if atom.is_id then (call_sort ∷ atom_sort ty ∷ []) ∷ inv ∷ inv ∷ [] else []) ++ id_decls (suc ty) atoms

-- a set of calls
abbrev pub set_decl : List ℕ
set_decl = call_sort ∷ []

-- so many sets of calls
abbrev pub set_decls : ℕ → List (List ℕ)
set_decls n = replicate n set_decl

-- two sets for each begin: what is seen from it on, and what is read right after it
abbrev pub rel_decls : Prog → ℕ → List (List ℕ)
rel_decls p begins =
    let two = call_sort ∷ call_sort ∷ [] in
    set_decl ∷ set_decl ∷ (inv_sort ∷ []) ∷ (inv_sort ∷ []) ∷ two ∷ two ∷ two ∷ set_decl ∷ set_decl
    ∷ (id_decls 0 p.types.atoms ++ set_decls (begins + begins))

-- # Functions

abbrev pub fn_of : List ℕ → ℕ → FnDecl
fn_of args result = record { args = args; result = result }

-- one for each query that gives a value
abbrev pub val_decls : Prog → List FnDecl
val_decls p =
    map (λ (query : QueryDecl). fn_of (map (sort_of p) query.args) (sort_of p query.result))
    (filter (λ (query : QueryDecl). is_get query.kind) p.queries)

-- those at so many views
abbrev pub val_decls_at : Prog → ℕ → List FnDecl
val_decls_at p zero = []
val_decls_at p (suc n) = val_decls p ++ val_decls_at p n

abbrev pub fn_decls : Prog → ℕ → List FnDecl
fn_decls p begins =
    fn_of (call_sort ∷ []) (op_sort p) ∷ fn_of (call_sort ∷ []) inv_sort ∷ fn_of (inv_sort ∷ []) (info_sort p)
    ∷ fn_of (inv_sort ∷ []) (outcome_sort p) ∷ fn_of (inv_sort ∷ []) (outcome_sort p)
    ∷ fn_of (int_sort p ∷ int_sort p ∷ []) (int_sort p) ∷ fn_of (int_sort p ∷ int_sort p ∷ []) (int_sort p)
    ∷ val_decls_at p (3 + (begins + begins))

-- # The signature

-- the invocation that acts, where there is one
abbrev pub const_decls : ℕ → List ℕ
const_decls zero = []
const_decls (suc begins) = inv_sort ∷ []

-- `views` is 0 where no invocation acts, and else one more than the begins on the path.
abbrev pub sig_of : Prog → ℕ → Signature
sig_of p views = record {
  sorts = sorts_of p;
  consts = const_decls views;
  fns = fn_decls p (views - 1);
  rels = rel_decls p (views - 1);
  cons = con_decls p;
}

-- With what a path adds: constants of these sorts, and so many reading sets, each with its values of queries.
abbrev pub with_path : Prog → List ℕ → ℕ → Signature → Signature
with_path p consts reads sig = record {
  sorts = sig.sorts;
  consts = sig.consts ++ consts;
  fns = sig.fns ++ val_decls_at p reads;
  rels = sig.rels ++ set_decls reads;
  cons = sig.cons;
}
