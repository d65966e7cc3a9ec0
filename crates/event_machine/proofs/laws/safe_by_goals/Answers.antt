use Rattle.event_machine.proofs.SafeLemmas.{safe_none_false}
use Rattle.event_machine.proofs.FalseLemmas.{none_false}
use Rattle.event_machine.proofs.laws.safe_by_goals.Goals as goal

pub returns : goal.returns
returns c p form = (none_false p form, safe_none_false p form)
