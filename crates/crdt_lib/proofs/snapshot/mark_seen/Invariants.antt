use Rattle.std.proofs.Common.{◌≡◌, ◌<◌, ◌+◌, ℕ, ◌&&◌, nat_eq, length}
use Rattle.std.specs.FinSet as set
use Rattle.crdt_defs.specs.Calls.{calls_view}
use Rattle.crdt_defs.specs.Histories.{call_is}
use Rattle.crdt_defs.specs.Counting.{any_below}
use Rattle.crdt_defs.specs.Snapshots.{bit}
use Rattle.crdt_lib.proofs.snapshot.mark_seen.Given as goal

abbrev pub invariant-loop-c : goal.invariant-loop-c
invariant-loop-c g l = record {
  block : length l.seen ≡ 16384;
  marked : (t : ℕ) → t < 16384 → bit l.seen t ≡ any_below (λ k. call_is (calls_view l.h) (λ call. nat_eq call.tx (l.base + t)) k && set.contains (g.V.View.calls l.view) k) l.c;
}
