use Rattle.std.proofs.Common.{◌≡◌, ◌&&◌, not, false}
use Rattle.std.specs.FinSet as set
use Rattle.crdt_defs.specs.Calls.{calls_view}
use Rattle.crdt_defs.specs.Histories.{call_is}
use Rattle.crdt_defs.specs.Counting.{any_below}
use Rattle.crdt_lib.specs.means.Blocks.{is_marked}
use Rattle.crdt_lib.proofs.snapshot.misses_one.Given as goal

abbrev pub invariant-loop-d : goal.invariant-loop-d
invariant-loop-d g l = any_below (λ d. call_is (calls_view l.h) (λ call. is_marked l.base l.seen call.tx) d && not (set.contains (g.V.View.calls l.view) d)) l.d ≡ false
