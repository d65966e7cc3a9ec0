use Rattle.std.proofs.Common.{◌≡◌, drop}
use Rattle.query_bodies.specs.Measures as spec
use Rattle.query_bodies.specs.means.Measuring.{at_view, known_of, measured_view}
use Rattle.query_bodies.specs.Views.{claims_view, claim_arms_view}
use Rattle.query_bodies.proofs.measure.Measure.+measured_claims.Given as goal

abbrev pub invariant-claims-loop-claim : goal.invariant-claims-loop-claim
invariant-claims-loop-claim l = record {
  measured : spec.claims (known_of l.initial.self) (at_view l.at) (claims_view (drop l.claim-index l.claims))
      (measured_view l.self)
      ≡ spec.claims (known_of l.initial.self) (at_view l.at) (claims_view l.claims) (measured_view l.initial.self);
  same : l.self.bodies.now ≡ l.initial.self.bodies.now;
}

abbrev pub invariant-arms-loop-arm : goal.invariant-arms-loop-arm
invariant-arms-loop-arm l = record {
  measured : spec.arms_of (known_of l.initial.self) (at_view l.at) (claim_arms_view (drop l.arm-index l.arms))
      (measured_view l.self)
      ≡ spec.arms_of (known_of l.initial.self) (at_view l.at) (claim_arms_view l.arms) (measured_view l.initial.self);
  same : l.self.bodies.now ≡ l.initial.self.bodies.now;
}
