use Rattle.lawful.proofs.Invariants.{invs_typed}
use Rattle.lawful.proofs.laws.invariants_are_typed.Goals as goal

pub returns : goal.returns
returns c = invs_typed
