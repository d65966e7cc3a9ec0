use Rattle.std.proofs.Common.{◌≤◌, length, sym, refl, arith}
use Rattle.std.proofs.lemmas.Bool.{true≢false}
use Rattle.machine_state.proofs.FitsLemmas.{no_room, room_more, all_room}
use Rattle.machine_state.proofs.state.has_room.Goals as goal

pub returns-then-size : goal.returns-then-size
returns-then-size c = (
  λ f. absurd (true≢false (sym f)),
  λ room. absurd (no_room c.args.p.now _ c.loop-q.q-index c.q-item.result _ _ c.as_slice-q-items.ensures.items c.loop-q-test.true c.q-item.is c.as_slice.ensures.items c.size.ensures c.if-size.true room),
)

pub loop-q-preserved : goal.loop-q-preserved
loop-q-preserved c =
    room_more c.args.p.now _ c.loop-q.q-index c.q-item.result _ _ c.as_slice-q-items.ensures.items c.loop-q-test.true c.q-item.is c.as_slice.ensures.items c.size.ensures c.if-size.false c.loop-q.invariant

pub returns : goal.returns
returns c =
    let end : length c.as_slice-q-items.result.now ≤ c.loop-q.q-index = omega (arith, c.loop-q-test.false) in
    (λ t. all_room c.args.p.now _ c.loop-q.q-index c.as_slice-q-items.ensures.items end c.loop-q.invariant, λ room. refl)
