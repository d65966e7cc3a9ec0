use Rattle.crdt_truth.specs.Readings.{parts_view}
use Rattle.crdt_truth.specs.means.Done.{AreDone}
use Rattle.crdt_truth.proofs.done.done_by_each.Given as goal

abbrev pub invariant-loop-c : goal.invariant-loop-c
invariant-loop-c l = AreDone (parts_view l.r) l.c l.lists.items
