use Rattle.std.proofs.Common.{◌<◌, length, sym, arith}
use Rattle.crdt_defs.specs.Calls.{calls_view}
use Rattle.crdt_defs.proofs.BelowLemmas.{any_found}
use Rattle.crdt_truth.proofs.ranges.has_done.Goals as goal

pub returns-then-is_done_by : goal.returns-then-is_done_by
returns-then-is_done_by c =
    let lt : c.loop-c.c < length (calls_view c.args.r.now.history.now) = omega (arith, c.len-c-end.ensures.seen) in
    sym (any_found _ _ _ lt (sym c.if-is_done_by.ensures))
