use Rattle.std.proofs.Common.{IfSome, subst}
use Rattle.query_bodies.specs.means.Putting.{IsPut}
use Rattle.query_bodies.specs.Views.{term_view, terms_view}
use Rattle.query_bodies.proofs.Shortened.{one_put_more, all_put}
use Rattle.query_bodies.proofs.shorten.joined.Goals as goal

pub loop-arg-preserved : goal.loop-arg-preserved
loop-arg-preserved c =
    one_put_more (terms_view c.args.outer.now) c.args.inner.now c.loop-arg.arg-index c.arg-item.result c.loop-arg.made
    c.push.new.self
    c.in-Some.copy c.loop-arg-test.true c.arg-item.is
    (subst (λ found. IfSome found (λ copy. IsPut (terms_view c.args.outer.now) (term_view c.arg-item.result) (term_view copy)))
    c.in-Some.is c.in_ok-copy.ensures)
    c.in_ok-push-in-Some.ensures.ok c.loop-arg.invariant

pub returns : goal.returns
returns c = all_put (terms_view c.args.outer.now) c.args.inner.now c.loop-arg.arg-index
    (terms_view c.loop-arg.made) c.loop-arg-test.false c.loop-arg.invariant
