-- Where an invocation stands.
use Rattle.std.specs.Prelude.{◌≡◌, ⊤, ℕ, ◌+◌, ◌≤◌, List, map, Option, Some, None}
use Rattle.rp_lang.specs.Programs.{Prog, Proc}
use Rattle.crdt_truth.specs.declared.reading.Info.{Info}
use Rattle.event_machine.specs.Code.{Return}
use Rattle.event_machine.specs.States.{Invocation}
use Rattle.event_machine.specs.WellFormed.{At}
use Rattle.code_points.specs.declared.table.Place.{Place}
use Rattle.code_points.specs.Places.{Tells, rest_at}
use Rattle.code_points.specs.PointView.{place_view}
use Rattle.code_points.specs.Points.{Spot, Before, Closing, inner, goes_on}
use Rattle.machine_state.specs.declared.state.State.{State}
use Rattle.machine_state.specs.StateView.{state_view, left_of}

-- what the invocation has left is what comes next at the spot, and then what is left behind it
pub record IsSpot (p : Prog) (s : State) (i : ℕ) (spot : Option Spot) : Type 0 where
  pub is : (inv : Invocation) (q : Proc) → At (state_view p s).invocations i inv → At p.procs inv.proc q → inv.left ≡ goes_on (left_of (Some q)) spot (Return q.end None)

-- its point, those inside it and the next one are at most the point `most`
abbrev pub IsWithin : ℕ → Option Spot → Type 0
IsWithin most None = ⊤
IsWithin most (Some (Before at s)) = at + inner s + 1 ≤ most
IsWithin most (Some (Closing at block)) = at + 1 ≤ most

-- the list of its procedure's points tells where the parts of what comes next end
abbrev pub IsTold : State → ℕ → Option Spot → Type 0
IsTold s i spot = (info : Info) (places : List Place) → At s.infos i info → At s.places info.proc places → Tells (map place_view places) spot

-- in that list the block of the point has so many points from there on
abbrev pub HasRest : State → (i n : ℕ) → ℕ → Type 0
HasRest s i n rest = (info : Info) (places : List Place) → At s.infos i info → At s.places info.proc places → rest ≡ rest_at (map place_view places) n
