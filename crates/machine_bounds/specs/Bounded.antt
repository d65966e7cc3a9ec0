-- Values that a program's expressions may come to: whole, and with bounded integers.
use Rattle.std.specs.Prelude.{◌≡◌, ℕ, ◌*◌, ℤ, pos, neg_ℤ, ◌≤ℤ◌, true, length, Some}
use Rattle.rp_value.specs.declared.tables.ConTable.{ConTable}
use Rattle.rp_value.specs.Values.{Val, Int, Str, Atom, Con, Call, Inv, Vals, no_val, also_val}
use Rattle.rp_lang.specs.Types.{fields_of}
use Rattle.crdt_defs.specs.Atoms.{ints_fit}
use Rattle.crdt_defs.specs.Histories.{IsHistory}
use Rattle.crdt_defs.specs.Truths.{list_of}
use Rattle.event_machine.specs.States.{Invocation, State}
use Rattle.event_machine.specs.WellFormed.{At}

-- at most w times 2^77, which a counter may hold: the sum of 16,384 amounts of 64 bits
abbrev pub IntWithin : ℕ → ℤ → Type 0
IntWithin w n = (neg_ℤ (pos (w * 151115727451828646838272)) ≤ℤ n) × (n ≤ℤ pos (w * 151115727451828646838272))

-- each integer inside the value is
abbrev mutual
  pub IntsWithin : ℕ → Val → Type 0
  IntsWithin w (Int n) = IntWithin w n
  IntsWithin w (Con con args) = AllWithin w args
  IntsWithin w (Str bytes) = Unit
  IntsWithin w (Atom of n) = Unit
  IntsWithin w (Call c) = Unit
  IntsWithin w (Inv i) = Unit

  pub AllWithin : ℕ → Vals → Type 0
  AllWithin w no_val = Unit
  AllWithin w (also_val v vs) = IntsWithin w v × AllWithin w vs

-- each constructor inside the value stands with as many values as it has fields
abbrev mutual
  pub IsWhole : ConTable → Val → Type 0
  IsWhole cons (Int n) = Unit
  IsWhole cons (Con con args) = (length (list_of args) ≡ length (fields_of cons con)) × AreWhole cons args
  IsWhole cons (Str bytes) = Unit
  IsWhole cons (Atom of n) = Unit
  IsWhole cons (Call c) = Unit
  IsWhole cons (Inv i) = Unit

  pub AreWhole : ConTable → Vals → Type 0
  AreWhole cons no_val = Unit
  AreWhole cons (also_val v vs) = IsWhole cons v × AreWhole cons vs

-- integers in calls and in slots have 64 bits, and calls are few
pub record HasWords (s : State) : Type 0 where
  pub calls : IsHistory s.calls
  pub slots : (i n : ℕ) (inv : Invocation) (v : Val) → At s.invocations i inv → At inv.slots n (Some v) → ints_fit v ≡ true
