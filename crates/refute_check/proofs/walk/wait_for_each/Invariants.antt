use Rattle.std.proofs.Common.{◌≡◌, ◌++◌, map, reverse, length}
use Rattle.refute_check.specs.means.Waits.{wait}
use Rattle.refute_check.proofs.walk.wait_for_each.Given as goal

abbrev pub invariant-loop-addition : goal.invariant-loop-addition
invariant-loop-addition l =
    map (wait l.formulas l.added) l.left ++ reverse l.waiting
    ≡ map (wait l.formulas l.added) l.initial.left ++ reverse l.initial.waiting

abbrev pub decreases-loop-addition : goal.decreases-loop-addition
decreases-loop-addition l = length l.left
