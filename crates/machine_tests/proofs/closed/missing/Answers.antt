use Rattle.std.proofs.Common.{◌≤◌, length, ◌∙◌, arith}
use Rattle.crdt_defs.specs.Calls.{calls_view}
use Rattle.crdt_lib.proofs.BlockLemmas.{none_marked}
use Rattle.machine_tests.proofs.ClosedLemmas.{missing_is}
use Rattle.machine_tests.proofs.RowLemmas.{nothing_missing}
use Rattle.machine_tests.proofs.closed.missing.Goals as goal

pub returns-then-sees_nothing : goal.returns-then-sees_nothing
returns-then-sees_nothing c = λ s e.
    let nothing = c.sees_nothing.ensures c.if-sees_nothing.true in
    nothing_missing s c.args.sees.now c.args.earlier.now c.args.txs nothing.0 nothing.1

pub mark_seen-requires-clause-none : goal.mark_seen-requires-clause-none
mark_seen-requires-clause-none c = none_marked 16384

pub mark_seen-requires-2-clause-none : goal.mark_seen-requires-2-clause-none
mark_seen-requires-2-clause-none c = none_marked 16384

pub mark_causes-requires-clause-none : goal.mark_causes-requires-clause-none
mark_causes-requires-clause-none c = none_marked 16384

pub mark_needed-requires-clause-none : goal.mark_needed-requires-clause-none
mark_needed-requires-clause-none c = none_marked 16384

pub returns : goal.returns
returns c = λ s e.
    let few : length c.args.h.now ≤ 16384 = c.mark_causes.ensures.few in
    let low : c.args.txs ≤ 16384 = omega arith in
    c.first_unseen.ensures
    ∙ missing_is (calls_view c.args.h.now) c.args.sees.now c.args.earlier.now _ _ c.args.txs low c.mark_causes.ensures.causes c.mark_needed.ensures.needed s e
