use Rattle.std.proofs.Common.{arith, refl, get_or}
use Rattle.std.proofs.lemmas.Option.{slice_get-get_or, slice_get_read}
use Rattle.refute_branch.specs.Views.{branch_view}
use Rattle.refute_rules.proofs.Sides.{side_pushed, sides_done}
use Rattle.refute_rules.proofs.congruences.other_sides.Goals as goal

pub loop-i-preserved : goal.loop-i-preserved
loop-i-preserved c =
    rw c.in_ok-push.ensures.ok
    (side_pushed (branch_view c.args.b.now) c.args.places.now c.args.terms.now c.loop-i.sides
    c.loop-i.i (get_or c.args.places.now c.loop-i.i 0) c.index-terms-i.result
    c.in_ok-copy_of_other_side.field-0
    c.loop-i.invariant (slice_get-get_or c.args.places.now c.loop-i.i 0 (omega arith))
    (slice_get_read _ _ _ _ refl c.loop-i-test.true c.index-terms-i.is)
    c.in_ok-copy_of_other_side.ensures.found)

pub returns-clause-found : goal.returns-clause-found
returns-clause-found c =
    sides_done (branch_view c.args.b.now) c.args.places.now c.args.terms.now c.loop-i.sides
    c.loop-i.i c.loop-i.invariant (omega arith) (omega arith)
