use Rattle.std.proofs.Common.{◌≡◌, false}
use Rattle.crdt_defs.specs.Counting.{any_below}
use Rattle.crdt_defs.specs.Snapshots.{bit}
use Rattle.crdt_lib.proofs.row.any.Given as goal

abbrev pub invariant-loop-c : goal.invariant-loop-c
invariant-loop-c l = any_below (bit l.row) l.c ≡ false
