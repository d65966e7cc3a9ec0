use Rattle.std.proofs.Common.{◌≡◌, drop}
use Rattle.query_bodies.specs.Measures as spec
use Rattle.query_bodies.specs.means.Measuring.{at_view, known_of, measured_view}
use Rattle.query_bodies.specs.Views.{terms_view}
use Rattle.query_bodies.proofs.measure.Measure.+measures.Given as goal

abbrev pub invariant-used-loop-place : goal.invariant-used-loop-place
invariant-used-loop-place l = record {
  measured : spec.arguments (known_of l.initial.self) (at_view l.at) (known_of l.initial.self l.decl) l.place
      (terms_view (drop l.place l.args)) (measured_view l.self)
      ≡ spec.arguments (known_of l.initial.self) (at_view l.at) (known_of l.initial.self l.decl) 0 (terms_view l.args)
      (measured_view l.initial.self);
  same : l.self.bodies.now ≡ l.initial.self.bodies.now;
}

abbrev pub invariant-terms-loop-term : goal.invariant-terms-loop-term
invariant-terms-loop-term l = record {
  measured : spec.terms (known_of l.initial.self) (at_view l.at) (terms_view (drop l.term-index l.terms)) (measured_view l.self)
      ≡ spec.terms (known_of l.initial.self) (at_view l.at) (terms_view l.terms) (measured_view l.initial.self);
  same : l.self.bodies.now ≡ l.initial.self.bodies.now;
}
