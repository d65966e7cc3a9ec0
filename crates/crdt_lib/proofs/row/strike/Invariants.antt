use Rattle.std.proofs.Common.{◌≡◌, ◌<◌, ◌≤◌, ℕ, ◌&&◌, not}
use Rattle.crdt_defs.specs.Calls.{calls_view}
use Rattle.crdt_defs.specs.Snapshots.{bit}
use Rattle.crdt_defs.specs.Meaning.{loses}
use Rattle.crdt_lib.proofs.row.strike.Given as goal

abbrev pub invariant-loop-c : goal.invariant-loop-c
invariant-loop-c l = record {
  done : (k : ℕ) → k < l.c → bit l.row k ≡ (bit l.initial.row k && not (loses (calls_view l.h) l.winner k l.d));
  left : (k : ℕ) → l.c ≤ k → bit l.row k ≡ bit l.initial.row k;
}
