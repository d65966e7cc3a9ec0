use Rattle.std.proofs.Common.{◌≤◌}
use Rattle.crdt_defs.specs.Calls.{calls_view}
use Rattle.crdt_lib.specs.means.Members.{AreCausedBelow}
use Rattle.crdt_lib.proofs.snapshot.caused_members.Given as goal

abbrev pub invariant-loop-c : goal.invariant-loop-c
invariant-loop-c g l = record { caused : AreCausedBelow (calls_view l.h) l.committed (g.V.View.calls l.view) l.c l.members; few : l.members ≤ l.c }
