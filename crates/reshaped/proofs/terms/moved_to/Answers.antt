use Rattle.std.proofs.Common.{◌≡◌, subst, IfOk, arith}
use Rattle.reshaped.proofs.FillViews.{moved_is, moved_near, moved_far}
use Rattle.reshaped.proofs.terms.moved_to.Goals as goal

pub returns-then-k-n : goal.returns-then-k-n
returns-then-k-n c = moved_is c.args.n c.args.k (omega (arith, c.if-k-n.true))

pub returns-then-k-n-2 : goal.returns-then-k-n-2
returns-then-k-n-2 c = subst (λ x. IfOk c.one_more.result (λ m. m ≡ x)) (moved_near c.args.n c.args.k (omega (arith, c.if-k-n-2.true))) c.one_more.ensures

pub returns-else-k-n-2 : goal.returns-else-k-n-2
returns-else-k-n-2 c = moved_far c.args.n c.args.k (omega (arith, c.if-k-n.false, c.if-k-n-2.false))
