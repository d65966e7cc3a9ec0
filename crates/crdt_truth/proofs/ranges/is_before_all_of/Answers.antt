use Rattle.std.proofs.Common.{◌≡◌, ◌<◌, ◌||◌, not, length, sym, ap, ◌∙◌, arith}
use Rattle.crdt_defs.specs.Calls.{calls_view}
use Rattle.crdt_defs.specs.Counting.{all_below}
use Rattle.crdt_defs.specs.Histories.{before}
use Rattle.crdt_defs.specs.Parts.{is_done_by}
use Rattle.crdt_truth.specs.Readings.{parts_view}
use Rattle.crdt_truth.proofs.RangeLemmas.{all_failed}
use Rattle.crdt_truth.proofs.ranges.is_before_all_of.Goals as goal

pub returns-then-not-leaves_before : goal.returns-then-not-leaves_before
returns-then-not-leaves_before c =
    let lt : c.loop-d.d < length (calls_view c.args.r.now.history.now) = omega (arith, c.len-d-end.ensures.seen) in
    sym (all_failed (λ d. not (is_done_by (parts_view c.args.r.now) c.args.j d) || before (calls_view c.args.r.now.history.now) c.args.c d) (length (calls_view c.args.r.now.history.now)) c.loop-d.d lt (sym c.if-not-leaves_before.ensures))

pub returns : goal.returns
returns c =
    let all : c.loop-d.d ≡ length (calls_view c.args.r.now.history.now) = omega (arith, c.len-d-end.ensures.seen) in
    sym (sym (ap (λ n. all_below (λ d. not (is_done_by (parts_view c.args.r.now) c.args.j d) || before (calls_view c.args.r.now.history.now) c.args.c d) n) all) ∙ c.loop-d.invariant)
