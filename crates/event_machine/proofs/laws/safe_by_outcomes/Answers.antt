use Rattle.event_machine.proofs.OutcomeLemmas.{never_violated, safe_from_outcomes}
use Rattle.event_machine.proofs.laws.safe_by_outcomes.Goals as goal

pub returns : goal.returns
returns c p = (never_violated p, safe_from_outcomes p)
