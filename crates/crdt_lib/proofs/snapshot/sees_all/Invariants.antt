use Rattle.std.proofs.Common.{◌≡◌, drop}
use Rattle.std.specs.List.{list_all}
use Rattle.std.specs.FinSet as set
use Rattle.crdt_lib.proofs.snapshot.sees_all.Given as goal

abbrev pub invariant-loop-c : goal.invariant-loop-c
invariant-loop-c g l = list_all (set.contains (g.V.View.calls l.view)) (drop l.c-index l.calls) ≡ list_all (set.contains (g.V.View.calls l.view)) l.calls
