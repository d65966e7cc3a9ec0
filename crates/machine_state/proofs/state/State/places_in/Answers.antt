use Rattle.machine_state.proofs.FitsLemmas.{places_within}
use Rattle.machine_state.proofs.state.State.places_in.Goals as goal

pub get-requires-2 : goal.get-requires-2
get-requires-2 c = record { within = places_within c.args.p.now c.args.self.now c.args.inv _ c.requires.fits c.get.ensures }
