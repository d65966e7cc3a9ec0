use Rattle.event_machine.proofs.FalseLemmas.{refuted_violates}
use Rattle.event_machine.proofs.laws.false_goals_violate.Goals as goal

pub returns : goal.returns
returns c = refuted_violates
