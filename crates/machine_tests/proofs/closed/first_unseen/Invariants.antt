use Rattle.std.proofs.Common.{◌≡◌, ◌&&◌, not, None}
use Rattle.crdt_defs.specs.Counting.{first_below}
use Rattle.crdt_defs.specs.Snapshots.{bit}
use Rattle.event_machine.specs.Machine as spec
use Rattle.machine_tests.proofs.closed.first_unseen.Given as goal

abbrev pub invariant-loop-tx : goal.invariant-loop-tx
invariant-loop-tx l = first_below (λ tx. not (spec.is_in l.sees tx) && bit l.needed tx) l.tx ≡ None
