use Rattle.std.proofs.Common.{◌≡◌, ◌<◌, ℕ}
use Rattle.std.specs.FinSet as set
use Rattle.crdt_defs.specs.Calls.{calls_view}
use Rattle.crdt_defs.specs.Snapshots.{bit}
use Rattle.crdt_defs.specs.Doing as spec
use Rattle.crdt_defs.specs.Meaning.{among}
use Rattle.crdt_lib.proofs.row.mark.Given as goal

abbrev pub invariant-loop-c : goal.invariant-loop-c
invariant-loop-c g l = (k : ℕ) → k < l.c → bit l.row k ≡ among (calls_view l.h) (set.contains (g.V.View.calls l.view)) (spec.on_root l.ops l.root) k
