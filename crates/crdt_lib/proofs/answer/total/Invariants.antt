use Rattle.std.proofs.Common.{◌≡◌, ◌*◌, slice_get, pos, ◌+ℤ◌, ◌≤ℤ◌, if◌then◌else◌}
use Rattle.crdt_defs.specs.Calls.{calls_view}
use Rattle.crdt_defs.specs.Counting.{sum_below}
use Rattle.crdt_defs.specs.Snapshots.{bit}
use Rattle.crdt_defs.specs.Doing as spec
use Rattle.crdt_lib.proofs.answer.total.Given as goal

abbrev pub invariant-loop-c : goal.invariant-loop-c
invariant-loop-c l = record {
  here : l.sum ≡ sum_below (λ c. if bit l.counted c then spec.amount l.ops (slice_get (calls_view l.h) c) else pos 0) l.c;
  least : pos 0 ≤ℤ (l.sum +ℤ pos (9223372036854775808 * l.c));
  most : l.sum ≤ℤ pos (9223372036854775808 * l.c);
}
