use Rattle.std.proofs.Common.{◌≡◌, ◌++◌, take}
use Rattle.reshaped.proofs.clauses.appended.Given as goal

abbrev pub invariant-loop-g : goal.invariant-loop-g
invariant-loop-g l = l.both ≡ l.fs ++ take l.g-index l.gs
