use Rattle.std.proofs.Common.{◌≡◌, drop}
use Rattle.std.specs.List.{list_all}
use Rattle.crdt_defs.specs.Calls.{calls_view}
use Rattle.crdt_defs.specs.Histories.{before}
use Rattle.crdt_truth.proofs.done.is_before_each.Given as goal

abbrev pub invariant-loop-d : goal.invariant-loop-d
invariant-loop-d l =
    list_all (λ d. before (calls_view l.r.history.now) l.c d) (drop l.d-index l.late) ≡ list_all (λ d. before (calls_view l.r.history.now) l.c d) l.late
