use Rattle.std.proofs.Common.{Err, ap, ◌∙◌}
use Rattle.rp_logic.specs.Views.{term_view}
use Rattle.reshaped.proofs.WalkViews.{found_here, found_later}
use Rattle.reshaped.proofs.determining.+found.Goals as goal

pub found_among-returns-in-Ok-clause-found : goal.found_among-returns-in-Ok-clause-found
found_among-returns-in-Ok-clause-found t c =
    found_here c.args.args.now c.args.con (term_view c.args.whole.now) _ _ c.loop-i.i _ c.get-arg.ensures c.loop-i.invariant
    (ap term_view c.get-selector.ensures ∙ c.in_ok-part.ensures) c.in-Ok.ensures.found

pub found_among-loop-i-preserved : goal.found_among-loop-i-preserved
found_among-loop-i-preserved t c =
    found_later c.args.args.now c.args.con (term_view c.args.whole.now) _ c.loop-i.i _ c.get-arg.ensures c.loop-i.invariant
    (ap term_view c.get-selector.ensures ∙ c.in_ok-part.ensures) (c.in-Err-Untold.ensures.none (ap (λ e. Err e) c.in-Err-Untold.field-0-is))
