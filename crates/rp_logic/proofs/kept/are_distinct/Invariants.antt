use Rattle.std.proofs.Common.{◌≡◌, length}
use Rattle.rp_logic.specs.Signatures as spec
use Rattle.rp_logic.proofs.kept.are_distinct.Given as goal

abbrev pub invariant-loop-left : goal.invariant-loop-left
invariant-loop-left l = spec.are_distinct l.numbers ≡ spec.are_distinct l.left

abbrev pub decreases-loop-left : goal.decreases-loop-left
decreases-loop-left l = length l.left
