use Rattle.std.proofs.Common.{◌≡◌}
use Rattle.crdt_defs.specs.Calls.{calls_view}
use Rattle.crdt_defs.specs.Snapshots.{bit}
use Rattle.event_machine.specs.Machine as spec
use Rattle.machine_tests.proofs.stamps.greatest_marked.Given as goal

abbrev pub invariant-loop-c : goal.invariant-loop-c
invariant-loop-c l = l.greatest ≡ spec.greatest_stamp (calls_view l.h) (bit l.row) l.c
