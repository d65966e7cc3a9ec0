use Rattle.std.proofs.Common.{◌≡◌, drop}
use Rattle.query_bodies.specs.Seen.{saids_in}
use Rattle.query_bodies.specs.Views.{claims_view, claim_arms_view}
use Rattle.lower_exprs.specs.Sound.{are_sound, arms_are_sound}
use Rattle.lower_exprs.proofs.sound.+sound_claims.Given as goal

abbrev pub invariant-claims_are_sound-loop-claim : goal.invariant-claims_are_sound-loop-claim
invariant-claims_are_sound-loop-claim l =
    are_sound l.cons (saids_in l.bodies) l.params (claims_view l.claims)
    ≡ are_sound l.cons (saids_in l.bodies) l.params (claims_view (drop l.claim-index l.claims))

abbrev pub invariant-arms_are_sound-loop-arm : goal.invariant-arms_are_sound-loop-arm
invariant-arms_are_sound-loop-arm l =
    arms_are_sound l.cons (saids_in l.bodies) l.params (claim_arms_view l.arms)
    ≡ arms_are_sound l.cons (saids_in l.bodies) l.params (claim_arms_view (drop l.arm-index l.arms))
