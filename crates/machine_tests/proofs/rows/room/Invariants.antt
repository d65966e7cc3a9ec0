use Rattle.std.proofs.Common.{◌≤◌}
use Rattle.machine_tests.proofs.rows.room.Given as goal

abbrev pub invariant-loop-c : goal.invariant-loop-c
invariant-loop-c l = l.count ≤ l.c
