use Rattle.reshaped.proofs.WalkViews.{stands_here}
use Rattle.reshaped.proofs.determining.+stands.Goals as goal

pub stands_among-returns-then-stands : goal.stands_among-returns-then-stands
stands_among-returns-then-stands t c = stands_here _ _ _ _ c.loop-t-test.true c.t-item.is c.loop-t.invariant c.if-stands.ensures
