use Rattle.std.proofs.Common.{◌≡◌, ◌&&◌, not, false}
use Rattle.rp_value.specs.ValueView.{value_view}
use Rattle.crdt_defs.specs.Calls.{calls_view}
use Rattle.crdt_defs.specs.Counting.{any_below}
use Rattle.crdt_defs.specs.Snapshots.{bit}
use Rattle.crdt_defs.specs.Doing as spec
use Rattle.crdt_defs.specs.Meaning.{among, is_before_one}
use Rattle.crdt_lib.specs.means.Picked.{listed}
use Rattle.crdt_lib.proofs.picked.any_stays.Given as goal

abbrev pub invariant-loop-c : goal.invariant-loop-c
invariant-loop-c l = any_below (λ c. among (calls_view l.h) (bit l.counted) (spec.does l.ops l.kind (value_view l.x)) c && not (is_before_one (calls_view l.h) (listed l.calls) c)) l.c ≡ false
