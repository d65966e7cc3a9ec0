-- Growth: what others may do between two actions of one invocation.
use Rattle.std.specs.Prelude.{◌≡◌, ◌≢◌, ℕ, true, Some}
use Rattle.rp_value.specs.Values.{Val}
use Rattle.rp_lang.specs.Programs.{Prog}
use Rattle.crdt_defs.specs.Calls.{Call}
use Rattle.event_machine.specs.Machine.{Running, Invocation, Tx, State, stands_in, is_generated}
use Rattle.event_machine.specs.WellFormed.{At, Inside, InSlots, IsWellFormed}
use Rattle.event_machine.specs.TypedStates.{IsTyped}

-- The identifier is private to i: it is generated, and stands in no argument, no result, no slot of another invocation
-- and no call but those of i's open transaction.
pub record IsPrivate (s : State) (i : ℕ) (x : Val) : Type 0 where
  pub generated : is_generated s x ≡ true
  pub args : (j : ℕ) (inv : Invocation) → At s.invocations j inv → Inside x inv.args → ⊥
  pub results : (j : ℕ) (inv : Invocation) → At s.invocations j inv → stands_in x inv.standing ≡ true → ⊥
  pub slots : (j : ℕ) (inv : Invocation) → At s.invocations j inv → InSlots x inv.slots → j ≡ i
  pub calls : (c : ℕ) (call : Call) → At s.calls c call → Inside x call.args → (inv : Invocation) × At s.invocations i inv × (inv.tx ≡ Some call.tx)

-- a state as runs of a well-formed program have it: well-formed, and typed
pub record IsValid (p : Prog) (s : State) : Type 0 where
  pub formed : IsWellFormed p s
  pub typed : IsTyped p s

-- of the same invocation, and committed where it was
abbrev pub StaysTx : Tx → Tx → Type 0
StaysTx old new = (old.inv ≡ new.inv) × (old.committed ≡ true → new.committed ≡ true)

pub record StaysInvocation (old new : Invocation) : Type 0 where
  pub proc : old.proc ≡ new.proc
  pub args : old.args ≡ new.args
  -- what has returned or failed stays so
  pub ended : old.standing ≢ Running → new.standing ≡ old.standing

pub record Grows (p : Prog) (old new : State) (i : ℕ) : Type 0 where
  pub before : IsValid p old
  pub after : IsValid p new
  pub universe : old.universe ≡ new.universe
  -- calls, transactions and invocations keep their numbers
  pub calls : (c : ℕ) (call : Call) → At old.calls c call → At new.calls c call
  pub txs : (t : ℕ) (tx : Tx) → At old.txs t tx → (tx' : Tx) × At new.txs t tx' × StaysTx tx tx'
  pub invs : (j : ℕ) (inv : Invocation) → At old.invocations j inv → (inv' : Invocation) × At new.invocations j inv' × StaysInvocation inv inv'
  pub generated : (x : Val) → is_generated old x ≡ true → is_generated new x ≡ true
  -- i is as it was, and no added call is its own
  pub same : (inv : Invocation) → At old.invocations i inv → At new.invocations i inv
  pub others : (c : ℕ) (call : Call) → At new.calls c call → call.inv ≡ i → At old.calls c call
  pub private : (x : Val) → IsPrivate old i x → IsPrivate new i x
