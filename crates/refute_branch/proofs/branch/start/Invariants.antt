use Rattle.std.proofs.Common.{◌≡◌, [], take}
use Rattle.refute_branch.specs.Marks.{HasMarks}
use Rattle.refute_branch.proofs.branch.start.Given as goal

abbrev pub invariant-loop-f : goal.invariant-loop-f
invariant-loop-f l = record {
  formulas : l.b.formulas ≡ take l.f-index l.given;
  added : l.b.added ≡ [];
  marked : HasMarks l.sig l.b;
}
