use Rattle.std.proofs.Common.{◌≡◌, arith, true, false}
use Rattle.std.specs.FinSet as set
use Rattle.crdt_defs.specs.Calls.{calls_view}
use Rattle.crdt_lib.specs.means.Members.{caused_at}
use Rattle.crdt_lib.proofs.MemberLemmas.{step_yes, step_no}
use Rattle.crdt_lib.proofs.snapshot.caused_members.Goals as goal
use Rattle.crdt_lib.proofs.snapshot.caused_members.Goals.{then-has+else-not-is_caused, else-has}

pub loop-c-preserved : goal.loop-c-preserved
loop-c-preserved g c =
    elim c.if-has.branch [
      | then-has+else-not-is_caused w ↦
          let y : set.contains (g.V.View.calls c.args.view.now) c.loop-c.c ≡ true = cc in
          let e : caused_at (calls_view c.args.h.now) c.args.committed.now (set.contains (g.V.View.calls c.args.view.now)) c.loop-c.c ≡ true = cc in
          record { caused = rw w.members-is (step_yes _ _ _ _ _ y e c.loop-c.invariant.caused); few = omega arith }
      | else-has w ↦
          let y : set.contains (g.V.View.calls c.args.view.now) c.loop-c.c ≡ false = cc in
          record { caused = rw w.members-is (step_no _ _ _ _ _ y c.loop-c.invariant.caused); few = omega arith }
    ]
