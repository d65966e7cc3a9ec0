use Rattle.std.proofs.Common.{◌≡◌, ◌++◌, take}
use Rattle.query_enc.proofs.lists.push_copies.Given as goal

abbrev pub invariant-loop-f : goal.invariant-loop-f
invariant-loop-f l = l.out ≡ l.fn.out ++ take l.f-index l.fs
