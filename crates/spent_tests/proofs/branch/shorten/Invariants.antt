use Rattle.std.proofs.Common.{◌≡◌, take, length}
use Rattle.spent_tests.proofs.branch.shorten.Given as goal

abbrev pub invariant-loop-list : goal.invariant-loop-list
invariant-loop-list l =
    take l.n l.list ≡ take l.n l.initial.list

abbrev pub decreases-loop-list : goal.decreases-loop-list
decreases-loop-list l = length l.list
