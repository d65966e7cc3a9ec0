use Rattle.reshaped.proofs.WalkViews.{told_here}
use Rattle.reshaped.proofs.eliminating.told_among.Goals as goal

pub returns-in-Ok-clause-found : goal.returns-in-Ok-clause-found
returns-in-Ok-clause-found c = told_here _ _ _ _ _ c.loop-f-test.true c.f-item.is c.loop-f.invariant c.in-Ok.ensures.found
