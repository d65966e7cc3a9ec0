use Rattle.event_machine.proofs.PrivateLemmas.{quiet-private, commit-private, new-private}
use Rattle.event_machine.proofs.histories.own_privacy.Goals as goal

pub returns-clause-new : goal.returns-clause-new
returns-clause-new c = new-private

pub returns-clause-quiet : goal.returns-clause-quiet
returns-clause-quiet c = quiet-private

pub returns-clause-commit : goal.returns-clause-commit
returns-clause-commit c = commit-private
