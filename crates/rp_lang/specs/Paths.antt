-- Replicated types of a program, and the operations and queries that they have at a path.
use Rattle.std.specs.Prelude.{ℕ, zero, suc, Bool, true, false, ◌&&◌, ◌==◌, nat_le, if◌then◌else◌, List, [], ◌∷◌, length, Option, Some, None, slice_get}
use Rattle.rp_value.specs.declared.tables.Ty.{Ty}
use Rattle.rp_value.specs.declared.tables.Ty.TheVariants.{Int}
use Rattle.rp_value.specs.declared.tables.TypeTable.{TypeTable}
use Rattle.rp_value.specs.declared.tables.ConTable.{ConTable}
use Rattle.rp_lang.specs.declared.op.OpDecl.{OpDecl}
use Rattle.rp_lang.specs.declared.op.OpKind.{OpKind}
use Rattle.rp_lang.specs.declared.op.OpKind.TheVariants.{Tx, Add, Remove, Assign, Increment, Delete}
use Rattle.rp_lang.specs.declared.op.PathStep.{PathStep}
use Rattle.rp_lang.specs.declared.op.PathStep.TheVariants.{Field, Key}
use Rattle.rp_lang.specs.declared.query.QueryDecl.{QueryDecl}
use Rattle.rp_lang.specs.declared.query.QueryKind.{QueryKind}
use Rattle.rp_lang.specs.declared.query.QueryKind.TheVariants.{Contains, HasKey, GetReg, GetSum}
use Rattle.rp_lang.specs.Crdts.{Cr, SetAw, SetRw, Reg, MvReg, Counter, MapUw, MapDw, Struct, CrFields, no_field, also_field}
use Rattle.rp_lang.specs.Programs.{Rt}
use Rattle.rp_lang.specs.FirstForm.{are_distinct}
use Rattle.rp_lang.specs.Types.{same_ty, is_ty, is_one, is_nothing, is_ordinary, bool_ty, is_maybe_of}

-- # Replicated types

abbrev pub has_fields : CrFields → Bool
has_fields no_field = false
has_fields (also_field name crdt rest) = true

abbrev pub field_names : CrFields → List (List ℕ)
field_names no_field = []
field_names (also_field name crdt rest) = name ∷ field_names rest

-- elements, values and keys are of types of data, and a struct has a field or more, with different names
abbrev mutual
  pub is_crdt : TypeTable → Cr → Bool
  is_crdt types (SetAw ty) = is_ordinary types ty
  is_crdt types (SetRw ty) = is_ordinary types ty
  is_crdt types (Reg ty) = is_ordinary types ty
  is_crdt types (MvReg ty) = is_ordinary types ty
  is_crdt types Counter = true
  is_crdt types (MapUw keys at_each) = is_ordinary types keys && is_crdt types at_each
  is_crdt types (MapDw keys at_each) = is_ordinary types keys && is_crdt types at_each
  is_crdt types (Struct fields) = has_fields fields && are_distinct (field_names fields) && are_crdts types fields

  pub are_crdts : TypeTable → CrFields → Bool
  are_crdts types no_field = true
  are_crdts types (also_field name crdt rest) = is_crdt types crdt && are_crdts types rest

-- # Paths

abbrev pub field_at : CrFields → ℕ → Option Cr
field_at no_field n = None
field_at (also_field name crdt rest) zero = Some crdt
field_at (also_field name crdt rest) (suc n) = field_at rest n

-- the type at a field of a struct
abbrev pub field_in : Cr → ℕ → Option Cr
field_in (Struct fields) n = field_at fields n
field_in _ n = None

-- what a map holds at each key, where its keys have the type
abbrev pub held_at : Ty → Cr → Option Cr
held_at ty (MapUw keys at_each) = if same_ty keys ty then Some at_each else None
held_at ty (MapDw keys at_each) = if same_ty keys ty then Some at_each else None
held_at ty _ = None

-- the type that a step leads to
abbrev pub stepped : Cr → PathStep → Option Cr
stepped crdt (Field n) = field_in crdt n
stepped crdt (Key ty) = held_at ty crdt

-- the type that a path leads to
abbrev pub reached : Option Cr → List PathStep → Option Cr
reached None path = None
reached (Some crdt) [] = Some crdt
reached (Some crdt) (step ∷ path) = reached (stepped crdt step) path

-- the arguments behind the keys of the path, which come first
abbrev pub own_args : List PathStep → List Ty → Option (List Ty)
own_args [] args = Some args
own_args (Field n ∷ path) args = own_args path args
own_args (Key ty ∷ path) [] = None
own_args (Key ty ∷ path) (arg ∷ args) = if same_ty arg ty then own_args path args else None

abbrev pub root_crdt : Option Rt → Option Cr
root_crdt None = None
root_crdt (Some root) = Some root.crdt

-- # Operations and queries

-- there is a type, and the arguments are one of it
abbrev pub is_one_of : Option Ty → List Ty → Bool
is_one_of None args = false
is_one_of (Some ty) args = is_one ty args

abbrev pub elements_of : Cr → Option Ty
elements_of (SetAw ty) = Some ty
elements_of (SetRw ty) = Some ty
elements_of _ = None

abbrev pub values_of : Cr → Option Ty
values_of (Reg ty) = Some ty
values_of (MvReg ty) = Some ty
values_of _ = None

abbrev pub keys_of : Cr → Option Ty
keys_of (MapUw keys at_each) = Some keys
keys_of (MapDw keys at_each) = Some keys
keys_of _ = None

-- what may be asked whether it is contained
abbrev pub members_of : Cr → Option Ty
members_of (SetAw ty) = Some ty
members_of (SetRw ty) = Some ty
members_of (MvReg ty) = Some ty
members_of _ = None

-- the one value of a register
abbrev pub value_of : Cr → Option Ty
value_of (Reg ty) = Some ty
value_of _ = None

-- what is counted
abbrev pub amounts_of : Cr → Option Ty
amounts_of Counter = Some Int
amounts_of _ = None

-- the type of the own argument of an operation, where the type has it
abbrev pub op_takes : OpKind → Cr → Option Ty
op_takes Tx crdt = None
op_takes Add crdt = elements_of crdt
op_takes Remove crdt = elements_of crdt
op_takes Assign crdt = values_of crdt
op_takes Increment crdt = amounts_of crdt
op_takes Delete crdt = keys_of crdt

-- the type has the operation, with these arguments of its own
abbrev pub op_fits : OpKind → Cr → List Ty → Bool
op_fits kind crdt args = is_one_of (op_takes kind crdt) args

-- there is a type, and the result is `Maybe` of it
abbrev pub is_maybe_in : TypeTable → ConTable → Option Ty → Ty → Bool
is_maybe_in types cons None result = false
is_maybe_in types cons (Some ty) result = is_maybe_of types cons ty result

-- the type has the query, with these arguments of its own and this result
abbrev pub query_fits : TypeTable → ConTable → QueryKind → Cr → List Ty → Ty → Bool
query_fits types cons Contains crdt args result = is_one_of (members_of crdt) args && same_ty result bool_ty
query_fits types cons HasKey crdt args result = is_one_of (keys_of crdt) args && same_ty result bool_ty
query_fits types cons GetReg crdt args result = is_nothing args && is_maybe_in types cons (value_of crdt) result
query_fits types cons GetSum crdt args result = is_nothing args && is_ty (amounts_of crdt) result

abbrev pub op_stands : OpKind → Option Cr → Option (List Ty) → Bool
op_stands kind (Some crdt) (Some own) = op_fits kind crdt own
op_stands kind _ _ = false

-- An operation of a root: its path has at most 6 steps and leads to a type that has it, and its arguments are the keys
-- on the path and then its own.
abbrev pub is_op : List Rt → OpDecl → Bool
is_op roots op = nat_le (length op.path) 6 && op_stands op.kind (reached (root_crdt (slice_get roots op.root)) op.path) (own_args op.path op.args)

abbrev pub query_stands : TypeTable → ConTable → QueryKind → Option Cr → Option (List Ty) → Ty → Bool
query_stands types cons kind (Some crdt) (Some own) result = query_fits types cons kind crdt own result
query_stands types cons kind _ _ result = false

abbrev pub is_query : TypeTable → ConTable → List Rt → QueryDecl → Bool
is_query types cons roots query =
    nat_le (length query.path) 6
    && query_stands types cons query.kind (reached (root_crdt (slice_get roots query.root)) query.path) (own_args query.path query.args) query.result

abbrev pub is_tx_kind : OpKind → Bool
is_tx_kind Tx = true
is_tx_kind _ = false

abbrev pub is_no_path : List PathStep → Bool
is_no_path [] = true
is_no_path _ = false

-- operation 0, which is on no root
abbrev pub is_tx : OpDecl → Bool
is_tx op = is_tx_kind op.kind && op.root == 0 && is_no_path op.path && is_nothing op.args
