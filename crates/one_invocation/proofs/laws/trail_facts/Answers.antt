use Rattle.one_invocation.proofs.PlaceFacts.{are-first}
use Rattle.one_invocation.proofs.TrailFacts.{others-seen, are-marks, are-own, reads-are, new-committed}
use Rattle.one_invocation.proofs.laws.trail_facts.Goals as goal

pub returns-clause-others : goal.returns-clause-others
returns-clause-others c = others-seen

pub returns-clause-marks : goal.returns-clause-marks
returns-clause-marks c = are-marks

pub returns-clause-commit : goal.returns-clause-commit
returns-clause-commit c = new-committed

pub returns-clause-calls : goal.returns-clause-calls
returns-clause-calls c = are-own

pub returns-clause-reading : goal.returns-clause-reading
returns-clause-reading c = reads-are

pub returns-clause-places : goal.returns-clause-places
returns-clause-places c = are-first
