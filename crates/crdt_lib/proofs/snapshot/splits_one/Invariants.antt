use Rattle.std.proofs.Common.{◌≡◌, false}
use Rattle.std.specs.FinSet as set
use Rattle.crdt_defs.specs.Calls.{calls_view}
use Rattle.crdt_defs.specs.Counting.{any_below}
use Rattle.crdt_lib.specs.means.Blocks.{splits}
use Rattle.crdt_lib.proofs.snapshot.splits_one.Given as goal

abbrev pub invariant-loop-block : goal.invariant-loop-block
invariant-loop-block g l = any_below (splits (calls_view l.h) (set.contains (g.V.View.calls l.view))) l.block ≡ false
