-- What an invocation has left, as the code knows it: by the points from which it may go on.
use Rattle.std.specs.Prelude.{◌≡◌, ℕ, ◌+◌, nat_eq, if◌then◌else◌, List, map, Option, Some, None, slice_get}
use Rattle.rp_value.specs.Values.{Val, Vals, Con}
use Rattle.rp_lang.specs.Stmts.{StArms, no_st_arm, also_st_arm}
use Rattle.rp_lang.specs.declared.program.Program.{Program}
use Rattle.rp_lang.specs.ProgramView.{program_view}
use Rattle.code_points.specs.declared.table.Place.{Place}
use Rattle.code_points.specs.Places.{TellsArms}
use Rattle.code_points.specs.PointView.{place_view}
use Rattle.code_points.specs.Points.{size}
use Rattle.crdt_truth.specs.declared.reading.Info.{Info}
use Rattle.event_machine.specs.Code.{Code}
use Rattle.event_machine.specs.States.{Invocation}
use Rattle.event_machine.specs.WellFormed.{At}
use Rattle.machine_reads.specs.Reads.{Viewed}
use Rattle.machine_state.specs.declared.state.State.{State}
use Rattle.machine_state.specs.StateView.{left_of}

-- the invocation has this left, where `left` gives what is left from each point of its procedure on
abbrev pub HasLeft : Program → State → ℕ → ((left : ℕ → Code) → Code) → Type 0
HasLeft p s i code = (inv : Invocation) → Viewed p s i inv → inv.left ≡ code (left_of (slice_get (program_view p).procs inv.proc))

-- the constructor's arm: its slots and its first point, where the first point of the arms is `at`
abbrev pub arm_in : StArms → (con at : ℕ) → Option (List ℕ × ℕ)
arm_in no_st_arm con at = None
arm_in (also_st_arm c slots body rest) con at = if nat_eq con c then Some (slots, at) else arm_in rest con (at + (size body + 1))

-- the constructor that a value is built with, and its fields
abbrev pub built : Val → Option (ℕ × Vals)
built (Con con args) = Some (con, args)
built _ = None

-- the list of its procedure's points tells where each of these arms ends, the first of which begins at the point
abbrev pub HasArms : State → ℕ → StArms → ℕ → Type 0
HasArms s i arms first = (info : Info) (places : List Place) → At s.infos i info → At s.places info.proc places → TellsArms (map place_view places) arms first
