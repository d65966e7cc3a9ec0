use Rattle.std.proofs.Common.{◌≡◌, drop}
use Rattle.std.specs.List.{list_any}
use Rattle.crdt_defs.specs.Calls.{calls_view}
use Rattle.crdt_defs.specs.Histories.{before}
use Rattle.crdt_lib.proofs.picked.is_before.Given as goal

abbrev pub invariant-loop-d : goal.invariant-loop-d
invariant-loop-d l = list_any (before (calls_view l.h) l.c) (drop l.d-index l.calls) ≡ list_any (before (calls_view l.h) l.c) l.calls
