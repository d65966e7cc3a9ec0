-- Worked rows: whether an add-wins set contains the value of a variable, by itself and below a map.
use Rattle.std.specs.Prelude.{◌≡◌, true, false, List, [], ◌∷◌}
use Rattle.rp_value.specs.declared.tables.Ty.{Ty}
use Rattle.rp_value.specs.declared.tables.Ty.TheVariants as ty
use Rattle.rp_lang.specs.Crdts.{Cr, SetAw, MapUw}
use Rattle.rp_lang.specs.declared.op.OpDecl.{OpDecl}
use Rattle.rp_lang.specs.declared.op.OpKind.{OpKind}
use Rattle.rp_lang.specs.declared.op.OpKind.TheVariants.{Tx, Add, Remove, Delete}
use Rattle.rp_lang.specs.declared.op.PathStep.{PathStep}
use Rattle.rp_lang.specs.declared.op.PathStep.TheVariants.{Key}
use Rattle.rp_lang.specs.declared.query.QueryDecl.{QueryDecl}
use Rattle.rp_lang.specs.declared.query.QueryKind.TheVariants as asked
use Rattle.rp_lang.specs.Programs.{Prog}
use Rattle.rp_logic.specs.Terms.{Var}
use Rattle.rp_logic.specs.Formulas.{All, Ex}
use Rattle.crdt_enc.specs.QueryFormulas.{query_formula}
use Rattle.crdt_enc.specs.rows.Shapes.{all, any, is_in, comes, does}

-- an operation on the root
abbrev pub op_at : List PathStep → OpKind → List Ty → OpDecl
op_at path kind args = record { root = 0; path = path; kind = kind; args = args }

-- whether the set at the end of the path contains an element
abbrev pub contains_at : List PathStep → List Ty → QueryDecl
contains_at path args = record { root = 0; path = path; kind = asked.Contains; args = args; result = ty.Datatype 0 }

-- a program with one root and no constructors, so that operations have their own numbers
abbrev pub one_root : Cr → List OpDecl → List QueryDecl → Prog
one_root crdt ops queries = record {
  types = record { atoms = []; datatypes = [] };
  cons = record { cons = [] };
  roots = record { name = []; crdt = crdt } ∷ [];
  ops = op_at [] Tx [] ∷ ops;
  queries = queries;
  invs = [];
  procs = [];
}

-- crdt s: SetAw[Int]
abbrev pub one_set : Prog
one_set =
    one_root (SetAw ty.Int) (op_at [] Add (ty.Int ∷ []) ∷ op_at [] Remove (ty.Int ∷ []) ∷ []) (contains_at [] (ty.Int ∷ []) ∷ [])

-- Some visible call adds x, and no visible call that removes x is after it: nothing else stands around it.
abbrev pub Contains : Type 0
Contains =
    query_formula one_set 7 0 (Var 0 ∷ [])
    ≡ Ex 0 (all (
    is_in true 7 0 ∷ does true 0 1 (Var 1 ∷ [])
    ∷ All 0 (any (is_in false 7 0 ∷ does false 0 2 (Var 2 ∷ []) ∷ comes false 1 0 ∷ [])) ∷ []))

-- crdt m: MapUw[Int, SetAw[Int]], with the operations 1 add, 2 remove and 3 delete
abbrev pub one_map : Prog
one_map =
    let below = Key ty.Int ∷ [] in
    let two = ty.Int ∷ ty.Int ∷ [] in
    one_root (MapUw ty.Int (SetAw ty.Int)) (op_at below Add two ∷ op_at below Remove two ∷ op_at [] Delete (ty.Int ∷ []) ∷ [])
    (contains_at below two ∷ [])

-- Below a map at key k: the add stands before no visible delete of k, and a remove that stands before one doesn't count.
abbrev pub ContainsBelow : Type 0
ContainsBelow =
    query_formula one_map 7 0 (Var 1 ∷ Var 0 ∷ [])
    ≡ Ex 0 (all (
    is_in true 7 0 ∷ does true 0 1 (Var 2 ∷ Var 1 ∷ [])
    ∷ All 0 (any (is_in false 7 0 ∷ does false 0 3 (Var 3 ∷ []) ∷ comes false 1 0 ∷ []))
    ∷ All 0 (any (
    is_in false 7 0 ∷ does false 0 2 (Var 3 ∷ Var 2 ∷ [])
    ∷ Ex 0 (all (is_in true 7 0 ∷ does true 0 3 (Var 4 ∷ []) ∷ comes true 1 0 ∷ []))
    ∷ comes false 1 0 ∷ [])) ∷ []))
