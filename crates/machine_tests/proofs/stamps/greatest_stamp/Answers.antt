use Rattle.std.proofs.Common.{ℕ, Bool, length, ap, ◌∙◌}
use Rattle.crdt_defs.specs.Calls.{calls_view}
use Rattle.crdt_lib.proofs.BlockLemmas.{none_marked}
use Rattle.event_machine.specs.Machine as spec
use Rattle.machine_tests.proofs.RowLemmas.{nothing_stamped}
use Rattle.machine_tests.proofs.stamps.greatest_stamp.Goals as goal

pub returns-then-reads_nothing : goal.returns-then-reads_nothing
returns-then-reads_nothing c =
    let nothing = c.reads_nothing.ensures c.if-reads_nothing.true in
    nothing_stamped (calls_view c.args.h.now) c.args.sees.now c.args.tx (length (calls_view c.args.h.now)) nothing.0 nothing.1

pub mark_read-requires-clause-none : goal.mark_read-requires-clause-none
mark_read-requires-clause-none c = none_marked 16384

pub returns : goal.returns
returns c =
    let calls = calls_view c.args.h.now in
    c.greatest_marked.ensures ∙ ap (λ (set : ℕ → Bool). spec.greatest_stamp calls set (length calls)) c.mark_read.ensures.marked
