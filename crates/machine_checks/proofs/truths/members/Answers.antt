use Rattle.std.specs.FinSet as set
use Rattle.machine_tests.proofs.SetLemmas.{ascends_as}
use Rattle.machine_checks.proofs.truths.members.Goals as goal

pub returns-clause-ascending : goal.returns-clause-ascending
returns-clause-ascending g c = ascends_as c.loop-c.calls (set.contains (g.V.View.calls c.args.view.now)) c.loop-c.c c.loop-c.invariant
