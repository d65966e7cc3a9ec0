-- States of the machine, its labels and its answers.
use Rattle.std.specs.Prelude.{ℕ, Bool, List, [], Option}
use Rattle.rp_span.specs.declared.Span.{Span}
use Rattle.rp_value.specs.Values.{Val}
use Rattle.crdt_defs.specs.Calls.{Call}
use Rattle.event_machine.specs.Code.{Code}

pub data Standing : Type 0 where
  Running : Standing
  Returned : (result : Option Val) → Standing
  Failed : Standing

pub record Invocation : Type 0 where
  pub proc : ℕ
  pub args : List Val
  -- the parameters first; a slot without a value isn't set
  pub slots : List (Option Val)
  -- what it still has to run
  pub left : Code
  -- the committed calls that it sees
  pub view : ℕ → Bool
  -- its open transaction
  pub tx : Option ℕ
  pub standing : Standing

pub record Tx : Type 0 where
  pub inv : ℕ
  pub committed : Bool

-- Calls, transactions and invocations are numbered from 0, in the order in which they came.
pub record State : Type 0 where
  pub universe : ℕ
  pub calls : List Call
  pub txs : List Tx
  pub invocations : List Invocation
  -- the generated identifiers
  pub generated : List Val

abbrev pub empty : ℕ → State
empty universe = record { universe = universe; calls = []; txs = []; invocations = []; generated = [] }

-- One action of one invocation, or a check of the snapshot of some transactions.
pub data Label : Type 0 where
  Invoke : (proc : ℕ) (args : List Val) → Label
  Begin : (inv stamp : ℕ) (sees : List ℕ) → Label
  Op : (inv stamp : ℕ) → Label
  Local : (inv : ℕ) → Label
  New : (inv : ℕ) (id : Val) → Label
  Commit : (inv : ℕ) → Label
  Return : (inv : ℕ) → Label
  Fail : (inv : ℕ) → Label
  Check : (sees : List ℕ) → Label

pub data Action : Type 0 where
  ToBegin : Action
  ToOp : Action
  ToLocal : Action
  ToNew : Action
  ToCommit : Action
  ToReturn : Action

-- What a violation broke.
pub data What : Type 0 where
  Assertion : (at : Span) → What
  Invariant : (inv : ℕ) → What

-- Why a label was refused.
pub data Why : Type 0 where
  NoInvocation : (inv : ℕ) → Why
  NotRunning : (inv : ℕ) → Why
  WrongPoint : (next : Action) → Why
  BadArgs : Why
  UnknownId : (id : Val) → Why
  NotCommitted : (tx : ℕ) → Why
  NotClosed : (missing : ℕ) → Why
  StampUsed : (stamp : ℕ) → Why
  StampLow : (seen : ℕ) → Why
  NotFresh : (id : Val) → Why
  OutOfUniverse : (v : Val) → Why

pub data Answer : Type 0 where
  Moved : (new : State) → Answer
  Checked : Answer
  Violated : (what : What) → Answer
  Refused : (why : Why) → Answer
