use Rattle.lawful.proofs.Called.{call_is}
use Rattle.lawful.proofs.laws.calls_are_typed.Goals as goal

pub returns : goal.returns
returns c = call_is
