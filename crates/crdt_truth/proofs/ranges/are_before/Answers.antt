use Rattle.std.proofs.Common.{◌≡◌, ◌<◌, ◌||◌, not, length, sym, ap, ◌∙◌, arith}
use Rattle.crdt_defs.specs.Calls.{calls_view}
use Rattle.crdt_defs.specs.Counting.{all_below}
use Rattle.crdt_defs.specs.Parts.{is_done_by, is_before_all_of}
use Rattle.crdt_truth.specs.Readings.{parts_view}
use Rattle.crdt_truth.proofs.RangeLemmas.{all_failed}
use Rattle.crdt_truth.proofs.ranges.are_before.Goals as goal

pub returns-then-not-is_early : goal.returns-then-not-is_early
returns-then-not-is_early c =
    let lt : c.loop-c.c < length (calls_view c.args.r.now.history.now) = omega (arith, c.len-c-end.ensures.seen) in
    sym (all_failed (λ k. not (is_done_by (parts_view c.args.r.now) c.args.i k) || is_before_all_of (parts_view c.args.r.now) c.args.j k) (length (calls_view c.args.r.now.history.now)) c.loop-c.c lt (sym c.if-not-is_early.ensures))

pub returns : goal.returns
returns c =
    let all : c.loop-c.c ≡ length (calls_view c.args.r.now.history.now) = omega (arith, c.len-c-end.ensures.seen) in
    sym (sym (ap (λ n. all_below (λ k. not (is_done_by (parts_view c.args.r.now) c.args.i k) || is_before_all_of (parts_view c.args.r.now) c.args.j k) n) all) ∙ c.loop-c.invariant)
