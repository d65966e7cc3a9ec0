use Rattle.std.proofs.Common.{◌≡◌, replicate}
use Rattle.spent_tests.proofs.branch.zeros.Given as goal

abbrev pub invariant-loop : goal.invariant-loop
invariant-loop l = l.made ≡ replicate l.counter 0
