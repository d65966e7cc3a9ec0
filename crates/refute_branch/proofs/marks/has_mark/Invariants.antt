use Rattle.std.proofs.Common.{◌≡◌, drop}
use Rattle.refute_branch.specs.means.Marking.{is_marked}
use Rattle.refute_branch.proofs.marks.has_mark.Given as goal

abbrev pub invariant-loop-mark : goal.invariant-loop-mark
invariant-loop-mark l = is_marked l.c l.marks ≡ is_marked l.c (drop l.mark-index l.marks)
