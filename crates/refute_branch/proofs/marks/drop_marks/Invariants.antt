use Rattle.std.proofs.Common.{◌≡◌, length, reverse}
use Rattle.refute_branch.specs.means.Marking.{dropped}
use Rattle.refute_branch.proofs.marks.drop_marks.Given as goal

abbrev pub invariant-loop-marks : goal.invariant-loop-marks
invariant-loop-marks l = dropped l.n (reverse l.marks) ≡ dropped l.n (reverse l.initial.marks)

abbrev pub decreases-loop-marks : goal.decreases-loop-marks
decreases-loop-marks l = length l.marks
