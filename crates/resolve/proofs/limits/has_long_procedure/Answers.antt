use Rattle.std.proofs.Common.{true, false, ap, sym, ◌∙◌}
use Rattle.text_names.proofs.Entries.{drop_past}
use Rattle.resolve.proofs.Counted.{long_is, long_next, some_long}
use Rattle.resolve.proofs.limits.has_long_procedure.Goals as goal

pub returns-then-is_past : goal.returns-then-is_past
returns-then-is_past c =
    sym (c.loop-proc.invariant
    ∙ long_next c.args.procs.now c.loop-proc.proc-index c.proc-item.result true c.loop-proc-test.true c.proc-item.is
    (long_is c.proc-item.result c.as_slice.result.now c.count_all-count.result true c.as_slice.ensures.items
    c.count_all-count.ensures c.if-is_past.ensures))

pub loop-proc-preserved : goal.loop-proc-preserved
loop-proc-preserved c =
    c.loop-proc.invariant
    ∙ long_next c.args.procs.now c.loop-proc.proc-index c.proc-item.result false c.loop-proc-test.true c.proc-item.is
    (long_is c.proc-item.result c.as_slice.result.now c.count_all-count.result false c.as_slice.ensures.items
    c.count_all-count.ensures c.if-is_past.ensures)

pub returns : goal.returns
returns c =
    sym (c.loop-proc.invariant ∙ ap some_long (drop_past c.args.procs.now c.loop-proc.proc-index c.loop-proc-test.false))
