-- The state that definitions speak of, of a state of the code.
use Rattle.std.specs.Prelude.{ℕ, Bool, List, [], ◌∷◌, Option, Some, None, map, option_map, slice_get}
use Rattle.rp_value.specs.Values.{Val}
use Rattle.rp_value.specs.ValueView.{value_view}
use Rattle.rp_lang.specs.Programs.{Prog, Proc}
use Rattle.crdt_defs.specs.Calls.{Call, calls_view}
use Rattle.crdt_truth.specs.declared.reading.Info.{Info}
use Rattle.crdt_truth.specs.declared.reading.Outcome.{Outcome}
use Rattle.crdt_truth.specs.declared.reading.Outcome.TheVariants.{Unreturned, Returned, ReturnedWith}
use Rattle.event_machine.specs.Code.{Code, Return}
use Rattle.event_machine.specs.Machine.{calls_of}
use Rattle.event_machine.specs.States as seen
use Rattle.code_points.specs.Points.{codes_at}
use Rattle.machine_state.specs.declared.state.Run.{Run}
use Rattle.machine_state.specs.declared.state.Standing.{Standing}
use Rattle.machine_state.specs.declared.state.Standing.TheVariants as stand
use Rattle.machine_state.specs.declared.state.State.{State}

abbrev pub returned_view : Outcome → Option Val
returned_view Unreturned = None
returned_view Returned = None
returned_view (ReturnedWith v) = Some (value_view v)

abbrev pub standing_view : Standing → Outcome → seen.Standing
standing_view stand.Running outcome = seen.Running
standing_view stand.Returned outcome = seen.Returned (returned_view outcome)
standing_view stand.Failed outcome = seen.Failed

-- what is left of a procedure from a point on
abbrev pub left_of : Option Proc → ℕ → Code
left_of None at = Return (record { from = 0; to = 0 }) None
left_of (Some q) at = codes_at q.body at (Return q.end None)

-- its view is the set of all calls of the transactions that it sees
abbrev pub inv_view : Prog → List Call → Info → Run → seen.Invocation
inv_view p calls info run = record {
  proc = info.proc;
  args = map value_view info.args;
  slots = map (option_map value_view) run.slots;
  left = left_of (slice_get p.procs info.proc) run.at;
  view = calls_of calls run.seen;
  tx = run.tx;
  standing = standing_view run.standing info.outcome;
}

abbrev pub invs_view : Prog → List Call → List Info → List Run → List seen.Invocation
invs_view p calls (info ∷ infos) (run ∷ runs) = inv_view p calls info run ∷ invs_view p calls infos runs
invs_view p calls _ _ = []

-- of each transaction the invocation that began it, and whether it is committed
abbrev pub txs_view : List ℕ → List Bool → List seen.Tx
txs_view (owner ∷ owners) (committed ∷ others) = record { inv = owner; committed = committed } ∷ txs_view owners others
txs_view _ _ = []

abbrev pub state_view : Prog → State → seen.State
state_view p s = record {
  universe = s.universe;
  calls = calls_view s.history;
  txs = txs_view s.owners s.committed;
  invocations = invs_view p (calls_view s.history) s.infos s.runs;
  generated = map value_view s.generated;
}
