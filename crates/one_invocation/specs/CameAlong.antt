-- An invocation has come along a trail: what is then true of the state.
use Rattle.std.specs.Prelude.{◌≡◌, ℕ, Bool, true, List, [], ◌∷◌, ◌++◌, Option, Some}
use Rattle.std.specs.List.{list_any}
use Rattle.rp_value.specs.declared.tables.Ty.TheVariants.{Atom}
use Rattle.rp_value.specs.Values.{Val, Con}
use Rattle.rp_lang.specs.Programs.{Proc, Prog}
use Rattle.crdt_defs.specs.Calls.{Call}
use Rattle.crdt_defs.specs.SameValues.{same_val}
use Rattle.crdt_defs.specs.Truths.{Reading, list_of, value, values, truth}
use Rattle.event_machine.specs.Code.{proc_code}
use Rattle.event_machine.specs.Fitting.{fits}
use Rattle.event_machine.specs.Machine.{Running, Invocation, State, is_in, reading_set, proc_reading, first_slots}
use Rattle.event_machine.specs.WellFormed.{At, Past}
use Rattle.event_machine.specs.Growth.{IsPrivate}
use Rattle.one_invocation.specs.Trails.{Done, HasPut, HasDecided, HasMade, HasOperated, HasTaken, HasTakenArm, HasBegun, HasEnded, path_of, slots_after, reads, open_tx, untold, own}
use Rattle.one_invocation.specs.Places.{Leaves}

-- where a trail began: the program, the universe, the invocation and its first slots
pub record Start : Type 0 where
  pub program : Prog
  pub universe : ℕ
  pub inv : ℕ
  pub slots : List (Option Val)

-- the start of invocation i of procedure q
abbrev pub start_of : Prog → State → ℕ → Proc → Invocation → Start
start_of p s i q inv = record { program = p; universe = s.universe; inv = i; slots = first_slots q inv.args }

-- what the invocation reads behind a trail
abbrev pub reads_at : Start → List Call → List Done → Reading
reads_at start calls trail =
    proc_reading start.program start.universe calls (slots_after start.slots trail) (reads calls trail)

-- call c is of this operation with these arguments, of this invocation and transaction
pub record IsOwn (calls : List Call) (c op : ℕ) (args : List Val) (inv tx : ℕ) : Type 0 where
  pub call : Call
  pub at : At calls c call
  pub op_is : call.op ≡ op
  pub args_are : call.args ≡ args
  pub inv_is : call.inv ≡ inv
  pub tx_is : call.tx ≡ tx

-- exactly these calls are before call c
abbrev pub HasPast : List Call → ℕ → (ℕ → Bool) → Type 0
HasPast calls c past = (call : Call) → At calls c call → (d : ℕ) → is_in call.past d ≡ past d

-- these calls, and perhaps more, are before call c
abbrev pub PastHolds : List Call → ℕ → (ℕ → Bool) → Type 0
PastHolds calls c set = (call : Call) (d : ℕ) → At calls c call → set d ≡ true → Past d call

-- A statement brought what the trail says, at what the invocation read behind the earlier ones.
abbrev pub Brings : Start → List Call → List Done → Done → Type 0
Brings start calls earlier (HasPut slot e v) = value (reads_at start calls earlier) [] e ≡ v
Brings start calls earlier (HasDecided slot f b) = truth (reads_at start calls earlier) [] f ≡ b
Brings start calls earlier (HasMade slot ty id) = fits start.program (Atom ty) id ≡ true
-- an own call of the open transaction, with exactly the calls before it that the invocation read
Brings start calls earlier (HasOperated op args vs c) =
    (list_of (values (reads_at start calls earlier) [] args) ≡ vs)
    × ((tx : ℕ) × (open_tx earlier ≡ Some tx) × IsOwn calls c op vs start.inv tx)
    × HasPast calls c (reads calls earlier)
Brings start calls earlier (HasTaken f b) = truth (reads_at start calls earlier) [] f ≡ b
Brings start calls earlier (HasTakenArm on arm con slots fields) = value (reads_at start calls earlier) [] on ≡ Con con fields
-- a marker; what the invocation read before stays read
Brings start calls earlier (HasBegun mark tx) = IsOwn calls mark 0 [] start.inv tx × PastHolds calls mark (reads calls earlier)
Brings start calls earlier HasEnded = Unit {0}

-- each statement of the trail brought what it says
abbrev pub Follows : Start → List Call → List Done → Type 0
Follows start calls [] = Unit {0}
Follows start calls (step ∷ earlier) = Brings start calls earlier step × Follows start calls earlier

-- Invocation i, a running one of procedure q, has come along the trail.
pub record CameAlong (p : Prog) (s : State) (i : ℕ) (q : Proc) (inv : Invocation) (trail : List Done) : Type 0 where
  pub is : At s.invocations i inv
  pub running : inv.standing ≡ Running
  pub proc : At p.procs inv.proc q
  -- its slots, its open transaction and what it reads are those that the trail leads to
  pub slots : inv.slots ≡ slots_after (first_slots q inv.args) trail
  pub tx : inv.tx ≡ open_tx trail
  pub reads_are : (c : ℕ) → reading_set s.calls inv c ≡ reads s.calls trail c
  pub follows : Follows (start_of p s i q inv) s.calls trail
  -- all its calls are of the trail
  pub all : (c : ℕ) (call : Call) → At s.calls c call → call.inv ≡ i → is_in (own trail) c ≡ true
  -- the identifiers that it made and can't have told yet are private to it
  pub hidden : (x : Val) → list_any (same_val x) (untold trail) ≡ true → IsPrivate s i x

-- It has come along this trail or further, and has left what its procedure leaves behind that path.
abbrev pub GoesOn : Prog → State → ℕ → Proc → List Done → Type 0
GoesOn p s i q trail =
    (inv : Invocation) × (later : List Done) × CameAlong p s i q inv (later ++ trail)
    × Leaves (proc_code q) (path_of (later ++ trail)) inv.left
