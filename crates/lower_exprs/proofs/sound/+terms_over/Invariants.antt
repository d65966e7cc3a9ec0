use Rattle.std.proofs.Common.{◌≡◌, drop}
use Rattle.query_bodies.specs.Views.{terms_view}
use Rattle.lower_exprs.specs.Sound.{are_over}
use Rattle.lower_exprs.proofs.sound.+terms_over.Given as goal

abbrev pub invariant-are_over-loop-term : goal.invariant-are_over-loop-term
invariant-are_over-loop-term l =
    are_over l.params (terms_view l.terms) ≡ are_over l.params (terms_view (drop l.term-index l.terms))
