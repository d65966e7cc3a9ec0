use Rattle.std.proofs.Common.{◌≡◌, ℕ, ◌<◌, ◌||◌, length}
use Rattle.crdt_defs.specs.Calls.{calls_view}
use Rattle.crdt_defs.specs.Snapshots.{bit}
use Rattle.event_machine.specs.Machine as spec
use Rattle.machine_tests.specs.means.Causes.{is_needed}
use Rattle.machine_tests.proofs.closed.mark_needed.Given as goal

abbrev pub invariant-loop-c : goal.invariant-loop-c
invariant-loop-c l = record {
  row : length l.row ≡ 16384;
  needed : (t : ℕ) → t < 16384 → bit l.row t ≡ is_needed (calls_view l.h) (λ c. spec.calls_of (calls_view l.h) l.earlier c || bit l.causes c) t l.c;
}
