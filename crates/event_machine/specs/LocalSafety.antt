-- Local safety: one invocation by itself, from any valid state and after any growth by others.
use Rattle.std.specs.Prelude.{◌≡◌, ℕ, zero, suc, ◌≤◌, Bool, true, List, [], length, Some}
use Rattle.rp_value.specs.Values.{Val}
use Rattle.rp_lang.specs.Programs.{Inv, Prog}
use Rattle.crdt_defs.specs.Snapshots.{IsSnapshot}
use Rattle.crdt_defs.specs.Truths.{truth}
use Rattle.event_machine.specs.Machine.{Running, Invocation, State, empty, Label, Invoke, at_snapshot, named, step}
use Rattle.event_machine.specs.Runs.{Leads, Violates}
use Rattle.event_machine.specs.WellFormed.{At, commits_of}
use Rattle.event_machine.specs.Growth.{IsValid, Grows}

-- every invariant is true where these calls are visible
abbrev pub HoldsAt : Prog → State → (ℕ → Bool) → Type 0
HoldsAt p s visible = (n : ℕ) (inv : Inv) → At p.invs n inv → truth (at_snapshot p s visible) [] inv.body ≡ true

-- every invariant is true at every consistent snapshot
abbrev pub HoldsAll : Prog → State → Type 0
HoldsAll p s = (visible : ℕ → Bool) → IsSnapshot s.calls (commits_of s.txs) visible → HoldsAt p s visible

abbrev pub IsRunning : State → ℕ → Type 0
IsRunning s i = (inv : Invocation) × At s.invocations i inv × (inv.standing ≡ Running)

-- The next n labels of i keep the invariants and don't violate, whatever others do before each of them, as long as that
-- keeps the invariants.
abbrev pub SafeFor : Prog → ℕ → State → ℕ → Type 0
SafeFor p zero s i = Unit {0}
SafeFor p (suc n) s i =
    IsRunning s i → (mid : State) → Grows p s mid i → HoldsAll p mid → (label : Label) → named label ≡ Some i
    → ((new : State) → Leads mid (step p mid label) new → HoldsAll p new × SafeFor p n new i) × (Violates (step p mid label) → ⊥)

abbrev pub IsLocallySafe : Prog → State → ℕ → Type 0
IsLocallySafe p s i = (n : ℕ) → SafeFor p n s i

-- The invariants hold in the empty state. From a valid state where they hold, each invocation that is accepted keeps them,
-- and is locally safe.
pub record StartsSafe (p : Prog) : Type 0 where
  pub begin : (universe : ℕ) → 1 ≤ universe → HoldsAll p (empty universe)
  pub invoke : (s : State) (proc : ℕ) (args : List Val) (new : State) → IsValid p s → HoldsAll p s → Leads s (step p s (Invoke proc args)) new
      → HoldsAll p new × IsLocallySafe p new (length s.invocations)
