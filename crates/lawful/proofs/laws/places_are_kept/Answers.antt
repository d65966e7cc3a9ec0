use Rattle.lawful.proofs.ProcPlaces.{procs_kept}
use Rattle.lawful.proofs.laws.places_are_kept.Goals as goal

pub returns : goal.returns
returns c = procs_kept
