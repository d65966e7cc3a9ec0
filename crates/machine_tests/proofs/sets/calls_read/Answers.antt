use Rattle.std.proofs.Common.{◌≡◌, ◌∙◌, ℕ, Bool, length, subst}
use Rattle.std.specs.Prelude.{IfOk}
use Rattle.crdt_defs.specs.Calls.{calls_view}
use Rattle.crdt_defs.specs.Snapshots.{bit}
use Rattle.crdt_lib.proofs.BlockLemmas.{none_marked}
use Rattle.event_machine.specs.Machine as spec
use Rattle.machine_tests.proofs.RowLemmas.{nothing_read}
use Rattle.machine_tests.proofs.sets.calls_read.Goals as goal

pub returns-then-reads_nothing-clause-calls : goal.returns-then-reads_nothing-clause-calls
returns-then-reads_nothing-clause-calls c =
    let nothing = c.reads_nothing.ensures c.if-reads_nothing.true in
    c.new.ensures ∙ nothing_read (calls_view c.args.h.now) c.args.sees.now c.args.tx (length (calls_view c.args.h.now)) nothing.0 nothing.1

pub mark_read-requires-clause-none : goal.mark_read-requires-clause-none
mark_read-requires-clause-none c = none_marked 16384

pub returns-clause-calls : goal.returns-clause-calls
returns-clause-calls c =
    let calls = calls_view c.args.h.now in
    let whole = subst (λ (n : ℕ). IfOk c.marked.result (λ list. list ≡ spec.listed (bit c.mark_read.new.row) n)) c.len.ensures.seen c.marked.ensures.calls in
    subst (λ (set : ℕ → Bool). IfOk c.marked.result (λ list. list ≡ spec.listed set (length calls))) c.mark_read.ensures.marked whole
