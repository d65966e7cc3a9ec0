-- Amounts have 64 bits.
use Rattle.std.proofs.Common.{◌≡◌, ℕ, zero, suc, true, IsTrue, ℤ, pos, negsuc, ◌≤ℤ◌, refl, arith, List, [], ◌∷◌, Option, Some, None, slice_get}
use Rattle.std.specs.List.{list_all}
use Rattle.std.proofs.lemmas.Bool.{and_parts}
use Rattle.std.proofs.lemmas.Int.{ints}
use Rattle.rp_value.specs.Values.{Val, Int}
use Rattle.rp_lang.specs.declared.op.OpDecl.{OpDecl}
use Rattle.rp_lang.specs.declared.op.OpKind.{OpKind}
use Rattle.rp_lang.specs.declared.op.OpKind.TheVariants.{Increment}
use Rattle.crdt_defs.specs.Atoms.{in_range, ints_fit}
use Rattle.crdt_defs.specs.Calls.{Call}
use Rattle.crdt_defs.specs.Histories.{IsHistory, args_fit}
use Rattle.crdt_defs.specs.Doing.{keys_in, int_of, amount_by, amount_of, amount}

own_fits : (v : Val) → ints_fit v ≡ true → in_range (int_of (Some v)) ≡ true
own_fits (Int n) e = e
own_fits _ e = refl

arg_fits : (args : List Val) (i : ℕ) → list_all ints_fit args ≡ true → in_range (int_of (slice_get args i)) ≡ true
arg_fits [] i e = refl
arg_fits (v ∷ vs) zero e = own_fits v (and_parts (ints_fit v) (list_all ints_fit vs) e).0
arg_fits (v ∷ vs) (suc i) e = arg_fits vs i (and_parts (ints_fit v) (list_all ints_fit vs) e).1

kind_fits : (kind : OpKind) (own : Option Val) → in_range (int_of own) ≡ true → in_range (amount_by kind own) ≡ true
kind_fits Increment own e = e
kind_fits _ own e = refl

op_fits : (call : Call) (op : Option OpDecl) → list_all ints_fit call.args ≡ true → in_range (amount_of call op) ≡ true
op_fits call None e = refl
op_fits call (Some op) e = kind_fits op.kind (slice_get call.args (keys_in op.path)) (arg_fits call.args (keys_in op.path) e)

call_fits : (ops : List OpDecl) (o : Option Call) → IsTrue (args_fit o) → in_range (amount ops o) ≡ true
call_fits ops None e = refl
call_fits ops (Some call) e = op_fits call (slice_get ops call.op) e

range_least : (n : ℤ) → in_range n ≡ true → negsuc 9223372036854775807 ≤ℤ n
range_least n e = grind (arith, ints)

range_most : (n : ℤ) → in_range n ≡ true → n ≤ℤ pos 9223372036854775807
range_most n e = grind (arith, ints)

pub amount_least : (ops : List OpDecl) (h : List Call) (c : ℕ) → IsHistory h → negsuc 9223372036854775807 ≤ℤ amount ops (slice_get h c)
amount_least ops h c history = range_least (amount ops (slice_get h c)) (call_fits ops (slice_get h c) (history.ints c))

pub amount_most : (ops : List OpDecl) (h : List Call) (c : ℕ) → IsHistory h → amount ops (slice_get h c) ≤ℤ pos 9223372036854775807
amount_most ops h c history = range_most (amount ops (slice_get h c)) (call_fits ops (slice_get h c) (history.ints c))
