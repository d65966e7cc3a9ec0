use Rattle.reshaped.proofs.WalkViews.{quantified_here}
use Rattle.reshaped.proofs.reshaping.+is_quantified.Goals as goal

pub are_quantified-returns-then-is_quantified : goal.are_quantified-returns-then-is_quantified
are_quantified-returns-then-is_quantified t c = quantified_here _ _ _ _ c.loop-f-test.true c.f-item.is c.loop-f.invariant c.if-is_quantified.ensures
