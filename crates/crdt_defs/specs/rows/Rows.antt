-- The histories of the worked rows. Identifiers are atoms of type 0.
use Rattle.std.specs.Prelude.{ℕ, pos, negsuc, Bool, ◌||◌, nat_eq, nat_lt, List, [], ◌∷◌, ◌++◌}
use Rattle.rp_value.specs.Values.{Val, Int, Atom}
use Rattle.rp_value.specs.declared.tables.Ty.{Ty}
use Rattle.rp_value.specs.declared.tables.Ty.TheVariants as ty
use Rattle.rp_lang.specs.Crdts as cr
use Rattle.rp_lang.specs.Crdts.{Cr, no_field, also_field}
use Rattle.rp_lang.specs.declared.op.OpDecl.{OpDecl}
use Rattle.rp_lang.specs.declared.op.OpKind.{OpKind}
use Rattle.rp_lang.specs.declared.op.OpKind.TheVariants.{Tx, Add, Remove, Assign, Increment, Delete}
use Rattle.rp_lang.specs.declared.op.PathStep.{PathStep}
use Rattle.rp_lang.specs.declared.op.PathStep.TheVariants.{Field, Key}
use Rattle.rp_lang.specs.declared.query.QueryKind.{QueryKind}
use Rattle.rp_lang.specs.declared.query.QueryKind.TheVariants.{Contains, HasKey, GetReg, GetSum}
use Rattle.crdt_defs.specs.declared.asked.Answer.{Answer}
use Rattle.crdt_defs.specs.Calls.{Call}
use Rattle.crdt_defs.specs.Queries.{answer_to}

-- the identifier U#0, and the two types of values in the rows
abbrev pub id : ℕ → Val
id n = Atom 0 n

abbrev pub int : ℕ → Val
int n = Int (pos n)

abbrev pub ids : Ty
ids = ty.Atom 0

-- the operation on root 0 at this path
abbrev pub op_at : List PathStep → OpKind → Ty → OpDecl
op_at path kind own = record { root = 0; path = path; kind = kind; args = own ∷ [] }

-- `tx`, and these
abbrev pub ops : OpDecl → OpDecl → List OpDecl
ops first second = record { root = 0; path = []; kind = Tx; args = [] } ∷ first ∷ second ∷ []

-- the answer of the query at this path of root 0, of this type
abbrev pub asks : Cr → List OpDecl → List PathStep → QueryKind → List Call → (ℕ → Bool) → List Val → Answer
asks crdt decls path kind = answer_to
    (record { name = []; crdt = crdt } ∷ [])
    decls
    (record { root = 0; path = path; kind = kind; args = []; result = ty.Int })

abbrev pub call : ℕ → List Val → ℕ → ℕ → List ℕ → Call
call op args tx stamp past = record { op = op; args = args; inv = tx; tx = tx; stamp = stamp; past = past }

-- two transactions, each a `tx` and a call, of operation 1 in the first and 2 in the second: side by side
abbrev pub side_by_side : List Val → List Val → List Call
side_by_side first second = call 0 [] 0 0 [] ∷ call 1 first 0 1 (0 ∷ []) ∷ call 0 [] 1 2 [] ∷ call 2 second 1 3 (2 ∷ []) ∷ []

-- the second after the first
abbrev pub in_order : List Val → List Val → List Call
in_order first second = call 0 [] 0 0 [] ∷ call 1 first 0 1 (0 ∷ []) ∷ call 0 [] 1 2 (0 ∷ 1 ∷ []) ∷ call 2 second 1 3 (0 ∷ 1 ∷ 2 ∷ []) ∷ []

-- side by side, with these stamps of the two calls
abbrev pub stamped : ℕ → ℕ → List Val → List Val → List Call
stamped s t first second = call 0 [] 0 0 [] ∷ call 1 first 0 s (0 ∷ []) ∷ call 0 [] 1 2 [] ∷ call 2 second 1 t (2 ∷ []) ∷ []

-- an assignment under two keys, beside it a delete of the inner key, and after that one a delete of the outer key
abbrev pub nested : List Call
nested =
    call 0 [] 0 0 []
    ∷ call 1 (id 0 ∷ id 1 ∷ int 7 ∷ []) 0 1 (0 ∷ [])
    ∷ call 0 [] 1 2 []
    ∷ call 2 (id 0 ∷ id 1 ∷ []) 1 3 (2 ∷ [])
    ∷ call 0 [] 2 4 (2 ∷ 3 ∷ [])
    ∷ call 3 (id 0 ∷ []) 2 5 (2 ∷ 3 ∷ 4 ∷ [])
    ∷ []

-- the views of the rows
abbrev pub first : ℕ → ℕ → Bool
first n c = nat_lt c n

abbrev pub last_two : ℕ → Bool
last_two c = nat_eq c 2 || nat_eq c 3

-- # What the rows ask

-- an add beside a remove of one element: whether the set has it
abbrev pub added_beside_removed : Cr → (ℕ → Bool) → Answer
added_beside_removed set visible =
    asks set (ops (op_at [] Add ids) (op_at [] Remove ids)) [] Contains (side_by_side (id 0 ∷ []) (id 0 ∷ [])) visible (id 0 ∷ [])

-- an assignment under a key beside a delete of the key
abbrev pub in_map : Cr → List PathStep → QueryKind → Answer
in_map map path kind =
    asks map (ops (op_at (Key ids ∷ []) Assign ty.Int) (op_at [] Delete ids)) path kind (side_by_side (id 0 ∷ int 7 ∷ []) (id 0 ∷ [])) (first 4) (id 0 ∷ [])

-- the value of the register under the key, and whether the map has the key
abbrev pub value_at_key : Cr → Answer
value_at_key map = in_map map (Key ids ∷ []) GetReg

abbrev pub has_key : Cr → Answer
has_key map = in_map map [] HasKey

-- two assignments in this history
abbrev pub assigned : Cr → QueryKind → List Call → List Val → Answer
assigned register kind h args =
    asks register (ops (op_at [] Assign ty.Int) (op_at [] Assign ty.Int)) [] kind h (first 4) args

-- the last of the values 1 and 2, assigned side by side with these stamps
abbrev pub last_of : ℕ → ℕ → Answer
last_of s t = assigned (cr.Reg ty.Int) GetReg (stamped s t (int 1 ∷ []) (int 2 ∷ [])) []

-- whether a register of many values has the value
abbrev pub keeps : List Call → ℕ → Answer
keeps h n = assigned (cr.MvReg ty.Int) Contains h (int n ∷ [])

-- the amounts 2 and -5
abbrev pub total : Answer
total = asks cr.Counter (ops (op_at [] Increment ty.Int) (op_at [] Increment ty.Int)) [] GetSum (side_by_side (int 2 ∷ []) (Int (negsuc 4) ∷ [])) (first 4) []

-- a set and a register in a struct, with an add and an assignment
abbrev pub in_struct : ℕ → QueryKind → List Val → Answer
in_struct field kind args =
    let fields = also_field [] (cr.SetAw ids) (also_field [] (cr.Reg ty.Int) no_field) in
    asks (cr.Struct fields) (ops (op_at (Field 0 ∷ []) Add ids) (op_at (Field 1 ∷ []) Assign ty.Int)) (Field field ∷ []) kind (side_by_side (id 0 ∷ []) (int 7 ∷ [])) (first 4) args

-- the register under both keys of `nested`
abbrev pub nested_value : (ℕ → Bool) → Answer
nested_value visible =
    let decls = ops (op_at (Key ids ∷ Key ids ∷ []) Assign ty.Int) (op_at (Key ids ∷ []) Delete ids) ++ op_at [] Delete ids ∷ [] in
    asks (cr.MapUw ids (cr.MapDw ids (cr.Reg ty.Int))) decls (Key ids ∷ Key ids ∷ []) GetReg nested visible (id 0 ∷ id 1 ∷ [])
