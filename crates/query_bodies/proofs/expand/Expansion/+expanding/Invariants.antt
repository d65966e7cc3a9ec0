use Rattle.std.proofs.Common.{◌≡◌, ◌+◌, ◌*◌, map, take, Some, length}
use Rattle.desugaring.specs.Parts.{each}
use Rattle.rp_lang.specs.Views.{expr_view}
use Rattle.query_bodies.specs.Expanded as spec
use Rattle.query_bodies.specs.means.Putting.{AreAmong}
use Rattle.query_bodies.specs.Expanding.{uses_before}
use Rattle.query_bodies.specs.Views.{given_view, term_view, terms_view}
use Rattle.query_bodies.proofs.Weights.{left, weight, weights}
use Rattle.query_bodies.proofs.expand.Expansion.+expanding.Given as goal

abbrev pub decreases-term : goal.decreases-term
decreases-term l = 4 * (left l.self.now + weight (term_view l.term.now))

abbrev pub decreases-terms : goal.decreases-terms
decreases-terms l = 4 * (left l.self.now + weights (terms_view l.terms.now)) + 1

abbrev pub decreases-boxed : goal.decreases-boxed
decreases-boxed l = 4 * (left l.self.now + weight (term_view l.term.now)) + 1

abbrev pub decreases-arg : goal.decreases-arg
decreases-arg l = 4 * (left l.self.now + weight (term_view l.arg.now)) + 1

abbrev pub decreases-args : goal.decreases-args
decreases-args l = 4 * (left l.self.now + weights (terms_view l.args.now)) + 2

abbrev pub decreases-used : goal.decreases-used
decreases-used l = 4 * (left l.self.now + weights (terms_view l.args.now)) + 3

abbrev pub invariant-terms-loop-part : goal.invariant-terms-loop-part
invariant-terms-loop-part l =
    each (λ e. spec.term (uses_before l.self) (map given_view l.given) l.bound (term_view e)) (take l.part-index l.terms)
    ≡ Some (map expr_view l.made)

abbrev pub invariant-args-loop-arg : goal.invariant-args-loop-arg
invariant-args-loop-arg l = record {
  among : AreAmong (map given_view l.made) (spec.arguments (uses_before l.self) (map given_view l.given) l.bound
      (terms_view l.args));
  count : length l.made ≡ l.arg-index;
}
