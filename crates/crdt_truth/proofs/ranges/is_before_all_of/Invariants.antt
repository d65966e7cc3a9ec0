use Rattle.std.proofs.Common.{◌≡◌, ◌||◌, not, true}
use Rattle.crdt_defs.specs.Calls.{calls_view}
use Rattle.crdt_defs.specs.Counting.{all_below}
use Rattle.crdt_defs.specs.Histories.{before}
use Rattle.crdt_defs.specs.Parts.{is_done_by}
use Rattle.crdt_truth.specs.Readings.{parts_view}
use Rattle.crdt_truth.proofs.ranges.is_before_all_of.Given as goal

abbrev pub invariant-loop-d : goal.invariant-loop-d
invariant-loop-d l = all_below (λ d. not (is_done_by (parts_view l.r) l.j d) || before (calls_view l.r.history.now) l.c d) l.d ≡ true
