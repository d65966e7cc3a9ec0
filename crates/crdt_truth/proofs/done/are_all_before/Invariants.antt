use Rattle.std.proofs.Common.{◌≡◌, drop}
use Rattle.std.specs.List.{list_all}
use Rattle.crdt_defs.specs.Calls.{calls_view}
use Rattle.crdt_defs.specs.Histories.{before}
use Rattle.crdt_truth.proofs.done.are_all_before.Given as goal

abbrev pub invariant-loop-c : goal.invariant-loop-c
invariant-loop-c l =
    list_all (λ c. list_all (λ d. before (calls_view l.r.history.now) c d) l.late) (drop l.c-index l.early) ≡ list_all (λ c. list_all (λ d. before (calls_view l.r.history.now) c d) l.late) l.early
