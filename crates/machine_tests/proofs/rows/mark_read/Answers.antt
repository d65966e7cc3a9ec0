use Rattle.crdt_defs.specs.Calls.{calls_view}
use Rattle.event_machine.specs.Machine as spec
use Rattle.machine_tests.proofs.RowLemmas.{both_marked}
use Rattle.machine_tests.proofs.rows.mark_read.Goals as goal

pub returns-clause-marked : goal.returns-clause-marked
returns-clause-marked c =
    let calls = calls_view c.args.h.now in
    both_marked c.mark_own.new.row c.mark_txs.new.row c.args.row.now (spec.calls_of calls c.args.sees.now) (spec.own_calls calls c.args.tx) c.mark_txs.ensures.marked c.mark_own.ensures.marked c.requires.none
