-- How the calls of one invocation lie in a state.
use Rattle.std.specs.Prelude.{◌≡◌, ◌≢◌, ℕ, ◌<◌, ◌⊎◌, ◌↔◌, Some}
use Rattle.crdt_defs.specs.Calls.{Call}
use Rattle.event_machine.specs.Machine.{Running, Invocation, State}
use Rattle.event_machine.specs.WellFormed.{At, In, Past, IsMarker}

-- a transaction has one marker
abbrev pub HasOneMarker : State → Type 0
HasOneMarker s =
    (m n : ℕ) (mark other : Call) → At s.calls m mark → At s.calls n other → IsMarker mark → IsMarker other
    → mark.tx ≡ other.tx → m ≡ n

-- what an earlier call of an invocation has before it, a later one has too
abbrev pub PastsGrow : State → Type 0
PastsGrow s =
    (c d b : ℕ) (call later : Call) → At s.calls c call → At s.calls d later → call.inv ≡ later.inv → c < d
    → Past b call → Past b later

-- a call behind its marker has before it what the marker has, and the earlier calls of its transaction
abbrev pub PastsAreOwn : State → Type 0
PastsAreOwn s =
    (m c d : ℕ) (mark call other : Call) → At s.calls m mark → IsMarker mark → At s.calls c call → call.tx ≡ mark.tx → c ≢ m
    → At s.calls d other → Past d call ↔ (Past d mark ⊎ ((other.tx ≡ call.tx) × (d < c)))

-- i is a running invocation
abbrev pub Runs : State → ℕ → Invocation → Type 0
Runs s i inv = At s.invocations i inv × (inv.standing ≡ Running)

-- the calls of a running invocation are of its open transaction, or it sees them
abbrev pub OwnAreSeen : State → Type 0
OwnAreSeen s =
    (i c : ℕ) (inv : Invocation) (call : Call) → Runs s i inv → At s.calls c call → call.inv ≡ i
    → (inv.tx ≡ Some call.tx) ⊎ In c inv.view

-- it sees what its markers have before them
abbrev pub MarkersAreSeen : State → Type 0
MarkersAreSeen s =
    (i m c : ℕ) (inv : Invocation) (mark : Call) → Runs s i inv → At s.calls m mark → IsMarker mark → mark.inv ≡ i
    → Past c mark → In c inv.view

-- the marker of its open transaction has before it exactly what it sees
abbrev pub ViewsAreMarked : State → Type 0
ViewsAreMarked s =
    (i m c : ℕ) (inv : Invocation) (mark : Call) → Runs s i inv → At s.calls m mark → IsMarker mark → inv.tx ≡ Some mark.tx
    → Past c mark ↔ In c inv.view
