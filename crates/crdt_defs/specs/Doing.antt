-- What a call does: an operation on the part of a root that its path leads to. The keys on the path come first among
-- the call's arguments, the outermost first; the operation's own argument stands behind them.
use Rattle.std.specs.Prelude.{ℕ, Bool, true, false, ◌&&◌, nat_eq, ℤ, pos, List, length, take, count_by, Option, Some, None, slice_get}
use Rattle.rp_value.specs.Values.{Val, Int}
use Rattle.rp_lang.specs.declared.op.OpDecl.{OpDecl}
use Rattle.rp_lang.specs.declared.op.OpKind.{OpKind}
use Rattle.rp_lang.specs.declared.op.OpKind.TheVariants.{Tx, Add, Remove, Assign, Increment, Delete}
use Rattle.rp_lang.specs.declared.op.PathStep.{PathStep}
use Rattle.rp_lang.specs.declared.op.PathStep.TheVariants.{Field, Key}
use Rattle.crdt_defs.specs.Calls.{Call}
use Rattle.crdt_defs.specs.SameValues.{value_is}

abbrev pub is_key : PathStep → Bool
is_key (Key ty) = true
is_key (Field n) = false

-- how many steps of the path are keys
abbrev pub keys_in : List PathStep → ℕ
keys_in path = count_by is_key path

abbrev pub same_kind : OpKind → OpKind → Bool
same_kind Tx Tx = true
same_kind Add Add = true
same_kind Remove Remove = true
same_kind Assign Assign = true
same_kind Increment Increment = true
same_kind Delete Delete = true
same_kind _ _ = false

abbrev pub meets_op : (OpDecl → Bool) → Option OpDecl → Bool
meets_op test None = false
meets_op test (Some op) = test op

-- the call's operation is one of these, and meets the test
abbrev pub op_is : List OpDecl → (OpDecl → Bool) → Call → Bool
op_is ops test call = meets_op test (slice_get ops call.op)

abbrev pub on_root : List OpDecl → ℕ → Call → Bool
on_root ops root call = op_is ops (λ op. nat_eq op.root root) call

-- the call is an operation of this kind
abbrev pub is_of : List OpDecl → OpKind → Call → Bool
is_of ops kind call = op_is ops (λ op. same_kind op.kind kind) call

-- the call is an operation of this kind, with x as its own argument
abbrev pub does : List OpDecl → OpKind → Val → Call → Bool
does ops kind x call = op_is ops (λ op. same_kind op.kind kind && value_is x (slice_get call.args (keys_in op.path))) call

abbrev pub is_field : ℕ → Option PathStep → Bool
is_field n (Some (Field m)) = nat_eq n m
is_field n _ = false

abbrev pub is_some_key : Option PathStep → Bool
is_some_key None = false
is_some_key (Some step) = is_key step

-- after `depth` steps the call's path goes on to the field n
abbrev pub goes_to_field : List OpDecl → ℕ → ℕ → Call → Bool
goes_to_field ops depth n call = op_is ops (λ op. is_field n (slice_get op.path depth)) call

-- after `depth` steps the call's path goes on to the key k
abbrev pub goes_to_key : List OpDecl → ℕ → Val → Call → Bool
goes_to_key ops depth k call =
    op_is ops (λ op. is_some_key (slice_get op.path depth) && value_is k (slice_get call.args (keys_in (take depth op.path)))) call

-- the call deletes the key k of the map at the end of a path of `depth` steps
abbrev pub deletes : List OpDecl → ℕ → Val → Call → Bool
deletes ops depth k call = op_is ops (λ op. nat_eq (length op.path) depth) call && does ops Delete k call

abbrev pub own_of : Call → Option OpDecl → Option Val
own_of call None = None
own_of call (Some op) = slice_get call.args (keys_in op.path)

-- the argument of a call behind the keys of its path
abbrev pub own_argument : List OpDecl → Option Call → Option Val
own_argument ops None = None
own_argument ops (Some call) = own_of call (slice_get ops call.op)

abbrev pub int_of : Option Val → ℤ
int_of (Some (Int n)) = n
int_of _ = pos 0

abbrev pub amount_by : OpKind → Option Val → ℤ
amount_by Increment own = int_of own
amount_by _ own = pos 0

abbrev pub amount_of : Call → Option OpDecl → ℤ
amount_of call None = pos 0
amount_of call (Some op) = amount_by op.kind (slice_get call.args (keys_in op.path))

-- what the call adds to a counter
abbrev pub amount : List OpDecl → Option Call → ℤ
amount ops None = pos 0
amount ops (Some call) = amount_of call (slice_get ops call.op)
