use Rattle.std.proofs.Common.{take}
use Rattle.query_bodies.specs.means.Putting.{ArePut}
use Rattle.query_bodies.specs.Views.{terms_view}
use Rattle.query_bodies.proofs.shorten.joined.Given as goal

abbrev pub invariant-loop-arg : goal.invariant-loop-arg
invariant-loop-arg l = ArePut (terms_view l.outer) (terms_view (take l.arg-index l.inner)) (terms_view l.made)
