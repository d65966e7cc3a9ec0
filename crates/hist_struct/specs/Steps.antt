-- A step of one invocation, and the sets of calls that formulas about it speak of.
use Rattle.std.specs.Prelude.{◌≡◌, ℕ, ◌-◌, Bool, false, ◌&&◌, ◌||◌, nat_eq, nat_lt, List, [], length, Option, Some, None, slice_get, ◌⊎◌}
use Rattle.rp_lang.specs.Programs.{Prog}
use Rattle.crdt_defs.specs.Calls.{Call}
use Rattle.crdt_defs.specs.Histories.{call_is, before}
use Rattle.crdt_defs.specs.Snapshots.{bit, IsSnapshot}
use Rattle.event_machine.specs.Machine.{Running, Invocation, State, Label, empty, listed, view_of, named, step}
use Rattle.event_machine.specs.Runs.{Leads}
use Rattle.event_machine.specs.WellFormed.{At, commits_of}
use Rattle.event_machine.specs.Growth.{IsValid}
use Rattle.rp_logic.specs.Elements.{Elem}

pub record Step : Type 0 where
  pub program : Prog
  pub old : State
  pub new : State
  -- the invocation that acts; of no matter where there are no views
  pub inv : ℕ
  -- 0 where no invocation acts; else one more than the begins on the path
  pub views : ℕ
  -- a snapshot of the new state
  pub snapshot : ℕ → Bool
  -- the path's constants
  pub vals : List Elem
  -- what is read after further own calls of the path: sets of calls of the old state
  pub reads : List (ℕ → Bool)

abbrev pub begins : Step → ℕ
begins x = x.views - 1

-- # Sets of calls

-- committed in the state
abbrev pub is_done : State → ℕ → Bool
is_done s c = call_is s.calls (λ call. bit (commits_of s.txs) call.tx) c

-- c has the lesser stamp
abbrev pub is_lesser : List Call → ℕ → ℕ → Bool
is_lesser h c d = call_is h (λ a. call_is h (λ b. nat_lt a.stamp b.stamp) d) c

-- the snapshot's part that was committed before
abbrev pub is_part : Step → ℕ → Bool
is_part x c = x.snapshot c && is_done x.old c

-- the markers of the invocation, ascending
abbrev pub marks : State → ℕ → List ℕ
marks s i = listed (λ c. call_is s.calls (λ call. nat_eq call.inv i && nat_eq call.op 0) c) (length s.calls)

-- what is before the marker; without one, what the invocation sees
abbrev pub is_seen_from : State → ℕ → Option ℕ → ℕ → Bool
is_seen_from s i None c = view_of (slice_get s.invocations i) c
is_seen_from s i (Some m) c = before s.calls c m

abbrev pub is_that : Option ℕ → ℕ → Bool
is_that None c = false
is_that (Some m) c = nat_eq m c

-- what the invocation sees from its k-th begin on, the first is number 0
abbrev pub is_seen : State → ℕ → ℕ → ℕ → Bool
is_seen s i k c = is_seen_from s i (slice_get (marks s i) k) c

-- and the marker itself
abbrev pub is_read : State → ℕ → ℕ → ℕ → Bool
is_read s i k c = is_seen s i k c || is_that (slice_get (marks s i) k) c

-- # Steps

-- nothing moves, or a label is accepted
abbrev pub Moves : Step → Type 0
Moves x = (x.new ≡ x.old) ⊎ ((label : Label) × Leads x.old (step x.program x.old label) x.new)

pub record IsStep (x : Step) : Type 0 where
  pub before : IsValid x.program x.old
  pub after : IsValid x.program x.new
  pub moves : Moves x
  -- the invocation runs, or isn't there yet
  pub acts : (inv : Invocation) → At x.old.invocations x.inv inv → inv.standing ≡ Running
  pub snapshot : IsSnapshot x.new.calls (commits_of x.new.txs) x.snapshot

-- # Which steps there are

abbrev pub step_of : Prog → State → State → ℕ → (ℕ → Bool) → ℕ → List Elem → List (ℕ → Bool) → Step
step_of p old new i snapshot views vals reads = record { program = p; old = old; new = new; inv = i; views = views; snapshot = snapshot; vals = vals; reads = reads }

-- at the very start: no call, no invocation
abbrev pub nothing_yet : Prog → ℕ → Step
nothing_yet p universe = step_of p (empty universe) (empty universe) 0 (λ c. false) 0 [] []

-- the label is one of this invocation, or the one that makes it
abbrev pub Acts : State → Label → ℕ → Type 0
Acts s label i = (named label ≡ Some i) ⊎ (i ≡ length s.invocations)
