use Rattle.machine_state.proofs.FitsLemmas.{body_room}
use Rattle.machine_state.proofs.state.all_places.Goals as goal

pub places_of-requires : goal.places_of-requires
places_of-requires c = record {
  room = body_room c.args.p.now _ c.loop-q.q-index c.q-item.result _ c.as_slice-q-items.ensures.items c.loop-q-test.true c.q-item.is c.as_slice.ensures.items c.requires.room;
}
