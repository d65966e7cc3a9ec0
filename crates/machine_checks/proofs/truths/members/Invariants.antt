use Rattle.std.proofs.Common.{◌≡◌}
use Rattle.std.specs.FinSet as set
use Rattle.event_machine.specs.Machine.{listed}
use Rattle.machine_checks.proofs.truths.members.Given as goal

abbrev pub invariant-loop-c : goal.invariant-loop-c
invariant-loop-c g l = l.calls ≡ listed (set.contains (g.V.View.calls l.view)) l.c
