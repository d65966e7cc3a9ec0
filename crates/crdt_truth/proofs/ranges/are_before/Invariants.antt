use Rattle.std.proofs.Common.{◌≡◌, ◌||◌, not, true}
use Rattle.crdt_defs.specs.Counting.{all_below}
use Rattle.crdt_defs.specs.Parts.{is_done_by, is_before_all_of}
use Rattle.crdt_truth.specs.Readings.{parts_view}
use Rattle.crdt_truth.proofs.ranges.are_before.Given as goal

abbrev pub invariant-loop-c : goal.invariant-loop-c
invariant-loop-c l = all_below (λ c. not (is_done_by (parts_view l.r) l.i c) || is_before_all_of (parts_view l.r) l.j c) l.c ≡ true
