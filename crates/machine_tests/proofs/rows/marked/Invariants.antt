use Rattle.std.proofs.Common.{◌≡◌, ◌≤◌, length}
use Rattle.crdt_defs.specs.Snapshots.{bit}
use Rattle.event_machine.specs.Machine as spec
use Rattle.machine_tests.proofs.rows.marked.Given as goal

abbrev pub invariant-loop-c : goal.invariant-loop-c
invariant-loop-c l = record {
  calls : l.calls.items ≡ spec.listed (bit l.row) l.c;
  few : length l.calls.items ≤ l.c;
}
