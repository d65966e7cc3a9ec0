use Rattle.std.proofs.Common.{◌≡◌, ℕ, ◌&&◌, not, length}
use Rattle.rp_value.specs.ValueView.{value_view}
use Rattle.crdt_defs.specs.Calls.{calls_view}
use Rattle.crdt_defs.specs.Counting.{any_below}
use Rattle.crdt_defs.specs.Snapshots.{bit}
use Rattle.crdt_defs.specs.Doing as spec
use Rattle.crdt_defs.specs.Meaning.{among, loses}
use Rattle.crdt_lib.proofs.row.hide.Given as goal

abbrev pub invariant-loop-d : goal.invariant-loop-d
invariant-loop-d l = record {
  here : (c : ℕ) → bit l.row c ≡ (bit l.initial.row c && not (any_below (λ d. among (calls_view l.h) (bit l.counted) (spec.deletes l.ops l.depth (value_view l.k)) d && loses (calls_view l.h) l.winner c d) l.d));
  long : length l.row ≡ length l.h;
}
