-- What follows from a trail's conditions: how the calls of the invocation lie in the state.
use Rattle.std.specs.Prelude.{◌≡◌, ℕ, ◌⊎◌, true, ◌&&◌, ◌||◌, nat_eq, nat_le, List, [], ◌∷◌, ◌++◌, length, reverse, Option, Some, None}
use Rattle.crdt_defs.specs.Calls.{Call}
use Rattle.crdt_defs.specs.Histories.{call_is, before}
use Rattle.event_machine.specs.Machine.{State, is_in, listed, own_calls}
use Rattle.event_machine.specs.WellFormed.{At}
use Rattle.one_invocation.specs.Trails.{Done, HasOperated, HasBegun, last_mark, own, reads}

-- the calls of the last transaction, the last in front
abbrev pub last_own : List Done → List ℕ
last_own [] = []
last_own (HasBegun mark tx ∷ earlier) = mark ∷ []
last_own (HasOperated op args vs c ∷ earlier) = c ∷ last_own earlier
last_own (_ ∷ earlier) = last_own earlier

-- the last transaction, open or not
abbrev pub last_tx : List Done → Option ℕ
last_tx [] = None
last_tx (HasBegun mark tx ∷ earlier) = Some tx
last_tx (_ ∷ earlier) = last_tx earlier

-- the markers, the last in front
abbrev pub marks : List Done → List ℕ
marks [] = []
marks (HasBegun mark tx ∷ earlier) = mark ∷ marks earlier
marks (_ ∷ earlier) = marks earlier

-- a call of the invocation that isn't of its last transaction is before the marker of that
abbrev pub OthersSeen : State → ℕ → List Done → Type 0
OthersSeen s i trail =
    (c mark : ℕ) (call : Call) → At s.calls c call → call.inv ≡ i → last_mark trail ≡ Some mark
    → (is_in (last_own trail) c ≡ true) ⊎ (before s.calls c mark ≡ true)

-- the markers of the invocation, in their order, are those of the trail
abbrev pub AreMarks : State → ℕ → List Done → Type 0
AreMarks s i trail =
    listed (λ c. call_is s.calls (λ call. nat_eq call.inv i && nat_eq call.op 0) c) (length s.calls) ≡ reverse (marks trail)

-- the calls of the invocation, in their order, are those of the trail
abbrev pub AreOwn : State → ℕ → List Done → Type 0
AreOwn s i trail = listed (λ c. call_is s.calls (λ call. nat_eq call.inv i) c) (length s.calls) ≡ reverse (own trail)

-- what is read is what the last begin sees, and the calls of the last transaction
abbrev pub ReadsAre : List Call → List Done → Type 0
ReadsAre calls trail =
    (mark c : ℕ) → last_mark trail ≡ Some mark → reads calls trail c ≡ (before calls c mark || is_in (last_own trail) c)

-- At each place of the trail, the own calls that are read are those of the transaction there up to the last one done.
abbrev pub AreFirst : State → List Done → Type 0
AreFirst s trail =
    (later earlier : List Done) (last t c : ℕ) (others : List ℕ)
    → trail ≡ later ++ earlier → last_tx earlier ≡ Some t → last_own earlier ≡ last ∷ others
    → is_in (last_own earlier) c ≡ (own_calls s.calls (Some t) c && nat_le c last)
