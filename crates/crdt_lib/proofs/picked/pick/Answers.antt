use Rattle.std.proofs.Common.{◌<◌, ◌∙◌, length, arith, sym}
use Rattle.crdt_lib.proofs.PickedLemmas.{one_more, not_one}
use Rattle.crdt_lib.proofs.picked.pick.Goals as goal
use Rattle.crdt_lib.proofs.picked.pick.Goals.{then-does_here, else-does_here}

pub loop-c-preserved : goal.loop-c-preserved
loop-c-preserved c =
    let end : c.loop-c.c < 16384 = let few = c.len-c-end.ensures.history.few in omega (arith, c.len-c-end.ensures.seen) in
    elim c.if-does_here.branch [
      | then-does_here w ↦
          let room : c.loop-c.picked < length c.loop-c.list = let f = c.loop-c.invariant.those.few in omega arith in
          record { room = cc; those = rw w.list-is (rw w.picked-is (one_more _ _ _ _ room (sym c.does_here.ensures ∙ cc) c.loop-c.invariant.those)) }
      | else-does_here w ↦
          record { room = cc; those = rw w.list-is (rw w.picked-is (not_one _ _ _ _ (sym c.does_here.ensures ∙ cc) c.loop-c.invariant.those)) }
    ]
