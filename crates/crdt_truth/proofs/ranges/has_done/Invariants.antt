use Rattle.std.proofs.Common.{◌≡◌, false}
use Rattle.crdt_defs.specs.Counting.{any_below}
use Rattle.crdt_defs.specs.Parts.{is_done_by}
use Rattle.crdt_truth.specs.Readings.{parts_view}
use Rattle.crdt_truth.proofs.ranges.has_done.Given as goal

abbrev pub invariant-loop-c : goal.invariant-loop-c
invariant-loop-c l = any_below (is_done_by (parts_view l.r) l.i) l.c ≡ false
