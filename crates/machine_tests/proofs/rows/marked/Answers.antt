use Rattle.std.proofs.Common.{◌∙◌}
use Rattle.crdt_defs.specs.Snapshots.{bit}
use Rattle.machine_tests.proofs.SetLemmas.{ascends_as}
use Rattle.machine_tests.proofs.rows.marked.Goals as goal

pub returns-clause-ascending : goal.returns-clause-ascending
returns-clause-ascending c = ascends_as c.from_vec.result (bit c.args.row.now) c.loop-c.c (c.from_vec.ensures ∙ c.loop-c.invariant.calls)
