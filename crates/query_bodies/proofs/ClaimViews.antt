-- What each variant of a formula is seen as.
use Rattle.std.proofs.Common.{◌≡◌, ℕ, List, ap, sym, ◌∙◌}
use Rattle.rp_value.specs.declared.tables.Ty.{Ty}
use Rattle.query_bodies.specs.declared.term.Term.{Term}
use Rattle.query_bodies.specs.declared.claim.Claim.{Claim}
use Rattle.query_bodies.specs.declared.claim.ClaimArm.{ClaimArm}
use Rattle.query_bodies.specs.declared.claim.Claim.TheVariants as made
use Rattle.query_bodies.specs.declared.claim.Claim.TheOpen as layer
use Rattle.query_bodies.specs.declared.claim.Claim.TheFolds.{fold-roll-Claim, fold_out-ClaimArm}
use Rattle.query_bodies.specs.Terms as te
use Rattle.query_bodies.specs.Terms.{Cl}
use Rattle.query_bodies.specs.Views.{ArmView, term_view, terms_view, claim_step, arm_step, claim_view, claim_arm_view, claims_view, claim_arms_view}

pub claim_view-And : (parts : List Claim) → claim_view (made.And parts) ≡ te.And (claims_view parts)
claim_view-And parts = ap claim_view (sym (made.rolls-And parts)) ∙ fold-roll-Claim Cl ArmView claim_step arm_step
    (layer.And parts)

pub claim_view-Or : (parts : List Claim) → claim_view (made.Or parts) ≡ te.Or (claims_view parts)
claim_view-Or parts = ap claim_view (sym (made.rolls-Or parts)) ∙ fold-roll-Claim Cl ArmView claim_step arm_step
    (layer.Or parts)

pub claim_view-Not : (part : Claim) → claim_view (made.Not part) ≡ te.Not (claim_view part)
claim_view-Not part = ap claim_view (sym (made.rolls-Not part)) ∙ fold-roll-Claim Cl ArmView claim_step arm_step
    (layer.Not part)

pub claim_view-Implies : (a b : Claim) → claim_view (made.Implies a b) ≡ te.Implies (claim_view a) (claim_view b)
claim_view-Implies a b = ap claim_view (sym (made.rolls-Implies a b)) ∙ fold-roll-Claim Cl ArmView claim_step arm_step
    (layer.Implies a b)

pub claim_view-All : (ty : Ty) (body : Claim) → claim_view (made.All ty body) ≡ te.All ty (claim_view body)
claim_view-All ty body = ap claim_view (sym (made.rolls-All ty body)) ∙ fold-roll-Claim Cl ArmView claim_step arm_step
    (layer.All ty body)

pub claim_view-Any : (ty : Ty) (body : Claim) → claim_view (made.Any ty body) ≡ te.Any ty (claim_view body)
claim_view-Any ty body = ap claim_view (sym (made.rolls-Any ty body)) ∙ fold-roll-Claim Cl ArmView claim_step arm_step
    (layer.Any ty body)

pub claim_view-Holds : (e : Term) → claim_view (made.Holds e) ≡ te.Holds (term_view e)
claim_view-Holds e = ap claim_view (sym (made.rolls-Holds e)) ∙ fold-roll-Claim Cl ArmView claim_step arm_step (layer.Holds e)

pub claim_view-Equal : (a b : Term) → claim_view (made.Equal a b) ≡ te.Equal (term_view a) (term_view b)
claim_view-Equal a b = ap claim_view (sym (made.rolls-Equal a b)) ∙ fold-roll-Claim Cl ArmView claim_step arm_step
    (layer.Equal a b)

pub claim_view-Less : (a b : Term) → claim_view (made.Less a b) ≡ te.Less (term_view a) (term_view b)
claim_view-Less a b = ap claim_view (sym (made.rolls-Less a b)) ∙ fold-roll-Claim Cl ArmView claim_step arm_step
    (layer.Less a b)

pub claim_view-AtMost : (a b : Term) → claim_view (made.AtMost a b) ≡ te.AtMost (term_view a) (term_view b)
claim_view-AtMost a b = ap claim_view (sym (made.rolls-AtMost a b)) ∙ fold-roll-Claim Cl ArmView claim_step arm_step
    (layer.AtMost a b)

pub claim_view-Visible : (e : Term) → claim_view (made.Visible e) ≡ te.Visible (term_view e)
claim_view-Visible e = ap claim_view (sym (made.rolls-Visible e)) ∙ fold-roll-Claim Cl ArmView claim_step arm_step
    (layer.Visible e)

pub claim_view-Before : (a b : Term) → claim_view (made.Before a b) ≡ te.Before (term_view a) (term_view b)
claim_view-Before a b = ap claim_view (sym (made.rolls-Before a b)) ∙ fold-roll-Claim Cl ArmView claim_step arm_step
    (layer.Before a b)

pub claim_view-Same : (a b : Term) → claim_view (made.Same a b) ≡ te.Same (term_view a) (term_view b)
claim_view-Same a b = ap claim_view (sym (made.rolls-Same a b)) ∙ fold-roll-Claim Cl ArmView claim_step arm_step
    (layer.Same a b)

pub claim_view-Match : (on : Term) (arms : List ClaimArm) → claim_view (made.Match on arms)
    ≡ te.Match (term_view on) (claim_arms_view arms)
claim_view-Match on arms = ap claim_view (sym (made.rolls-Match on arms)) ∙ fold-roll-Claim Cl ArmView claim_step arm_step
    (layer.Match on arms)

pub claim_view-Use : (decl : ℕ) (args : List Term) → claim_view (made.Use decl args) ≡ te.UseCl decl (terms_view args)
claim_view-Use decl args = ap claim_view (sym (made.rolls-Use decl args)) ∙ fold-roll-Claim Cl ArmView claim_step arm_step
    (layer.Use decl args)

pub claim_arm_view-parts : (a : ClaimArm) → claim_arm_view a ≡ ((a.con, a.binds), claim_view a.body)
claim_arm_view-parts a = fold_out-ClaimArm Cl ArmView claim_step arm_step a

pub ruleset claim_views = (claim_arm_view-parts, claim_view-And, claim_view-Or, claim_view-Not, claim_view-Implies, claim_view-All, claim_view-Any, claim_view-Holds, claim_view-Equal, claim_view-Less, claim_view-AtMost, claim_view-Visible, claim_view-Before, claim_view-Same, claim_view-Match, claim_view-Use)
