use Rattle.std.proofs.Common.{◌≡◌, ◌-◌, length}
use Rattle.crdt_defs.specs.Calls.{calls_view}
use Rattle.crdt_defs.specs.Snapshots.{bit}
use Rattle.event_machine.specs.Machine as spec
use Rattle.machine_tests.specs.means.Causes.{AreCausesFrom}
use Rattle.machine_tests.proofs.closed.mark_causes.Given as goal

abbrev pub invariant-loop-i : goal.invariant-loop-i
invariant-loop-i l = record {
  row : length l.row ≡ 16384;
  causes : AreCausesFrom (calls_view l.h) (spec.calls_of (calls_view l.h) l.sees) (length (calls_view l.h) - l.i) (bit l.row);
}
