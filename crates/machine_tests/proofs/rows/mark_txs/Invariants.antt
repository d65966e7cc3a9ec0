use Rattle.std.proofs.Common.{◌≡◌, ℕ, ◌||◌, take, length}
use Rattle.crdt_defs.specs.Calls.{calls_view}
use Rattle.crdt_defs.specs.Snapshots.{bit}
use Rattle.event_machine.specs.Machine as spec
use Rattle.machine_tests.proofs.rows.mark_txs.Given as goal

abbrev pub invariant-loop-tx : goal.invariant-loop-tx
invariant-loop-tx l = record {
  row : length l.row ≡ 16384;
  marked : (n : ℕ) → bit l.row n ≡ (spec.calls_of (calls_view l.h) (take l.tx-index l.sees) n || bit l.initial.row n);
}
