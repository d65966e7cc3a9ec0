use Rattle.std.proofs.Common.{◌≡◌, ℕ, length, sym, subst, arith}
use Rattle.crdt_defs.specs.Calls.{calls_view}
use Rattle.crdt_truth.specs.Readings.{parts_view}
use Rattle.crdt_truth.specs.means.Done.{AreDone}
use Rattle.crdt_truth.proofs.DoneLemmas.{done_none}
use Rattle.crdt_truth.proofs.done.done_by_each.Goals as goal

pub loop-c-init : goal.loop-c-init
loop-c-init c = subst (AreDone (parts_view c.args.r.now) 0) (sym c.in_ok-lists.ensures) (done_none (parts_view c.args.r.now) _)

pub returns : goal.returns
returns c =
    let all : c.loop-c.c ≡ length (calls_view c.args.r.now.history.now) = omega (arith, c.len-c-end.ensures.seen) in
    subst (λ (n : ℕ). AreDone (parts_view c.args.r.now) n c.loop-c.lists.items) all c.loop-c.invariant
