use Rattle.std.proofs.Common.{◌≡◌, ℕ, ◌||◌, take, length}
use Rattle.crdt_defs.specs.Snapshots.{bit}
use Rattle.event_machine.specs.Machine as spec
use Rattle.machine_tests.proofs.rows.mark_all.Given as goal

abbrev pub invariant-loop-n : goal.invariant-loop-n
invariant-loop-n l = record {
  row : length l.row ≡ 16384;
  marked : (n : ℕ) → bit l.row n ≡ (spec.is_in (take l.n-index l.numbers) n || bit l.initial.row n);
}
