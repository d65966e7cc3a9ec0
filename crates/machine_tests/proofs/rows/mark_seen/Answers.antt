use Rattle.crdt_defs.specs.Calls.{calls_view}
use Rattle.event_machine.specs.Machine as spec
use Rattle.machine_tests.proofs.RowLemmas.{only_marked}
use Rattle.machine_tests.proofs.rows.mark_seen.Goals as goal

pub returns-clause-marked : goal.returns-clause-marked
returns-clause-marked c = only_marked c.mark_txs.new.row c.args.row.now (spec.calls_of (calls_view c.args.h.now) c.args.sees.now) c.mark_txs.ensures.marked c.requires.none
