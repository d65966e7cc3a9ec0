use Rattle.std.proofs.Common.{◌≡◌, ◌+◌, ◌*◌, map, take, Some}
use Rattle.desugaring.specs.Parts.{each}
use Rattle.rp_lang.specs.Views.{formula_view, arm_view}
use Rattle.query_bodies.specs.Expanded as spec
use Rattle.query_bodies.specs.Expanding.{uses_before}
use Rattle.query_bodies.specs.Views.{given_view, claim_view, claims_view, claim_arm_view, claim_arms_view}
use Rattle.query_bodies.proofs.Gathered.{arm_made}
use Rattle.query_bodies.proofs.Weights.{left, claim_weight, claims_weight, arms_weight}
use Rattle.query_bodies.proofs.expand.Expansion.+expanding_claims.Given as goal

abbrev pub decreases-claim : goal.decreases-claim
decreases-claim l = 4 * (left l.self.now + claim_weight (claim_view l.claim.now))

abbrev pub decreases-claims : goal.decreases-claims
decreases-claims l = 4 * (left l.self.now + claims_weight (claims_view l.claims.now)) + 1

abbrev pub decreases-boxed_claim : goal.decreases-boxed_claim
decreases-boxed_claim l = 4 * (left l.self.now + claim_weight (claim_view l.claim.now)) + 1

abbrev pub decreases-scope : goal.decreases-scope
decreases-scope l = 4 * (left l.self.now + claim_weight (claim_view l.body.now)) + 2

abbrev pub decreases-arms : goal.decreases-arms
decreases-arms l = 4 * (left l.self.now + arms_weight (claim_arms_view l.arms.now)) + 1

abbrev pub decreases-used_claim : goal.decreases-used_claim
decreases-used_claim l = 4 * left l.self.now + 3

abbrev pub invariant-claims-loop-part : goal.invariant-claims-loop-part
invariant-claims-loop-part l =
    each (λ f. spec.claim (uses_before l.self) (map given_view l.given) l.bound (claim_view f)) (take l.part-index l.claims)
    ≡ Some (map formula_view l.made)

abbrev pub invariant-arms-loop-arm : goal.invariant-arms-loop-arm
invariant-arms-loop-arm l =
    each (λ a. arm_made (uses_before l.self) (map given_view l.given) l.bound (claim_arm_view a)) (take l.arm-index l.arms)
    ≡ Some (map arm_view l.made)
