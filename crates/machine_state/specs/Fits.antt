-- Which states are states of a program, and which steps are steps of it.
use Rattle.std.specs.Prelude.{◌≡◌, ℕ, ◌<◌, ◌≤◌, true, List, length, map, All, Some, None, ⊤}
use Rattle.std.specs.List.{list_any}
use Rattle.std.specs.List.Sorted.{IsStrictlyIncreasing}
use Rattle.rp_value.specs.Values.{Val}
use Rattle.rp_value.specs.declared.value.Value.{Value}
use Rattle.rp_value.specs.ValueView.{value_view}
use Rattle.rp_lang.specs.declared.program.Program.{Program}
use Rattle.rp_lang.specs.declared.step.Step.{Step}
use Rattle.rp_lang.specs.declared.step.Step.TheVariants as step
use Rattle.rp_lang.specs.Programs.{Proc, Prog}
use Rattle.rp_lang.specs.ProgramView.{program_view}
use Rattle.crdt_defs.specs.Atoms.{ints_fit}
use Rattle.crdt_defs.specs.SameValues.{same_val}
use Rattle.crdt_defs.specs.Snapshots.{bit}
use Rattle.crdt_truth.specs.declared.reading.Info.{Info}
use Rattle.event_machine.specs.Machine.{is_known}
use Rattle.event_machine.specs.WellFormed.{At, IsWellFormed}
use Rattle.event_machine.specs.TypedStates.{IsTyped}
use Rattle.code_points.specs.declared.table.Place.{Place}
use Rattle.code_points.specs.Places.{block_places}
use Rattle.code_points.specs.PointView.{place_view}
use Rattle.code_points.specs.Points.{size}
use Rattle.machine_state.specs.declared.state.Run.{Run}
use Rattle.machine_state.specs.declared.state.State.{State}
use Rattle.machine_state.specs.Accessors.{has_ended, is_returned}
use Rattle.machine_state.specs.StateView.{state_view}

-- the points of each procedure have numbers of 64 bits
abbrev pub HasRoom : Prog → Type 0
HasRoom p = (n : ℕ) (q : Proc) → At p.procs n q → size q.body < 18446744073709551615

-- of each procedure its points
abbrev pub AreProcPlaces : List Proc → List (List Place) → Type 0
AreProcPlaces procs all = map (map place_view) all ≡ map (λ q. block_places q.body 0 None) procs

-- what the lists of a state keep, whatever the program
pub record IsKept (s : State) : Type 0 where
  pub few : length s.runs ≤ 16384
  -- lists that stand beside one another
  pub runs : length s.infos ≡ length s.runs
  pub txs : length s.owners ≡ length s.committed
  -- a transaction has a call
  pub calls : length s.owners ≤ length s.history
  -- what an invocation sees
  pub ascending : (i : ℕ) (run : Run) → At s.runs i run → IsStrictlyIncreasing run.seen
  pub committed : (i : ℕ) (run : Run) → At s.runs i run → All (λ tx. bit s.committed tx ≡ true) run.seen
  -- an open transaction is later than those that its invocation sees
  pub later : (i t : ℕ) (run : Run) → At s.runs i run → run.tx ≡ Some t → All (λ tx. tx < t) run.seen
  -- integers in slots have 64 bits
  pub ints : (i n : ℕ) (run : Run) (v : Value) → At s.runs i run → At run.slots n (Some v) → ints_fit (value_view v) ≡ true
  -- an invocation has an outcome exactly where it has returned
  pub told : (i : ℕ) (info : Info) (run : Run) → At s.infos i info → At s.runs i run → has_ended info.outcome ≡ is_returned run.standing

-- what is kept as known is what stands in results
abbrev pub KnowsResults : Prog → State → Type 0
KnowsResults p s = (x : Val) → list_any (same_val x) (map value_view s.known) ≡ is_known (state_view p s) x

pub record Fits (p : Program) (s : State) : Type 0 where
  pub room : HasRoom (program_view p)
  pub places : AreProcPlaces (program_view p).procs s.places
  pub well_formed : IsWellFormed (program_view p) (state_view (program_view p) s)
  pub typed : IsTyped (program_view p) (state_view (program_view p) s)
  pub kept : IsKept s
  pub known : KnowsResults (program_view p) s

-- its procedure is one of the program's, and what it sees ascends
abbrev pub StepFits : Program → Step → Type 0
StepFits p (step.Invoke proc args) = proc < length p.procs
StepFits p (step.Begin inv stamp sees) = IsStrictlyIncreasing sees
StepFits p (step.Check sees) = IsStrictlyIncreasing sees
StepFits p _ = ⊤
