use Rattle.std.proofs.Common.{◌≡◌, ◌<◌, ℕ}
use Rattle.crdt_defs.specs.Calls.{calls_view}
use Rattle.crdt_defs.specs.Snapshots.{bit}
use Rattle.crdt_defs.specs.Doing as spec
use Rattle.crdt_defs.specs.Meaning.{among}
use Rattle.crdt_lib.proofs.row.enter_field.Given as goal

abbrev pub invariant-loop-c : goal.invariant-loop-c
invariant-loop-c l = (k : ℕ) → k < l.c → bit l.row k ≡ among (calls_view l.h) (bit l.counted) (spec.goes_to_field l.ops l.depth l.n) k
