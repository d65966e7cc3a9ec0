use Rattle.std.proofs.Common.{◌≡◌, ℕ, ◌+◌, List, Option, Some, map, option_map, refl, sym, ap, subst, ◌∙◌, arith}
use Rattle.rp_lang.specs.declared.expr.Expr.{Expr}
use Rattle.rp_lang.specs.declared.formula.Formula.{Formula}
use Rattle.rp_lang.specs.Formulas as fo
use Rattle.rp_lang.specs.Views.{arms_of, arm_view, fos_of, formula_view}
use Rattle.rp_lang.proofs.FormulaViews.{formula_view-And, formula_view-Or, formula_view-Not, formula_view-Implies, formula_view-All, formula_view-Any, formula_view-Holds, formula_view-Equal, formula_view-Less, formula_view-AtMost, formula_view-Visible, formula_view-Before, formula_view-Same, formula_view-Match}
use Rattle.desugaring.specs.Values as values
use Rattle.query_bodies.specs.declared.term.Term.{Term}
use Rattle.query_bodies.specs.declared.term.Body.{Body}
use Rattle.query_bodies.specs.declared.claim.Claim.{Claim}
use Rattle.query_bodies.specs.declared.claim.ClaimArm.{ClaimArm}
use Rattle.query_bodies.specs.Expanded as spec
use Rattle.query_bodies.specs.Expanded.{said_at}
use Rattle.query_bodies.specs.means.Putting.{AreAmong}
use Rattle.query_bodies.specs.Expanding.{uses_before}
use Rattle.query_bodies.specs.Seen.{saids_in}
use Rattle.query_bodies.specs.Terms.{said_claim}
use Rattle.query_bodies.specs.Views.{body_view, given_view, term_view, terms_view, claim_view, claims_view, claim_arm_view, claim_arms_view}
use Rattle.query_bodies.proofs.Arms.{mapped_is, both_is, then_ok}
use Rattle.query_bodies.proofs.Gathered.{arm_made, arm_found, arms_each, one_more, all_made, claims_each}
use Rattle.query_bodies.proofs.ClaimViews.{claim_view-And, claim_view-Or, claim_view-Not, claim_view-Implies, claim_view-All, claim_view-Any, claim_view-Holds, claim_view-Equal, claim_view-Less, claim_view-AtMost, claim_view-Visible, claim_view-Before, claim_view-Same, claim_view-Match, claim_view-Use}
use Rattle.query_bodies.proofs.Used.{same_uses, claim_used}
use Rattle.query_bodies.proofs.Weights.{left, claim_weight, claim_weight_in, arm_weight_in, one_claim_falls, left_claim_falls, right_claim_falls, claims_fall, arms_fall, claim_body_falls, left_inside}
use Rattle.query_bodies.proofs.expand.Expansion.+expanding_claims.Goals as goal

pub claims-loop-part-preserved : goal.claims-loop-part-preserved
claims-loop-part-preserved t c =
    let u = uses_before c.args.self.now in
    let g = map given_view c.args.given.now in
    one_more (λ f. spec.claim u g c.args.bound (claim_view f)) formula_view c.args.claims.now c.loop-part.part-index
    c.part-item.result
    c.loop-part.made c.push.new.self c.in_ok-claim.field-0 c.loop-part-test.true c.part-item.is c.in_ok-claim.ensures
    c.in_ok-push.ensures.ok c.loop-part.invariant

pub claims-returns : goal.claims-returns
claims-returns t c =
    let u = uses_before c.args.self.now in
    let g = map given_view c.args.given.now in
    claims_each u g c.args.bound c.args.claims.now
    ∙ ap (option_map fos_of) (all_made (λ f. spec.claim u g c.args.bound (claim_view f)) c.args.claims.now
    c.loop-part.part-index _ c.loop-part-test.false c.loop-part.invariant)

pub arms-returns : goal.arms-returns
arms-returns t c =
    let u = uses_before c.args.self.now in
    let g = map given_view c.args.given.now in
    arms_each u g c.args.bound c.args.arms.now
    ∙ ap (option_map arms_of) (all_made (λ a. arm_made u g c.args.bound (claim_arm_view a)) c.args.arms.now
    c.loop-arm.arm-index _ c.loop-arm-test.false c.loop-arm.invariant)

pub claim-returns-in-Ok : goal.claim-returns-in-Ok
claim-returns-in-Ok t c =
    let f = spec.claim (uses_before c.args.self.now) (map given_view c.args.given.now) c.args.bound in
    let fs = spec.claims (uses_before c.args.self.now) (map given_view c.args.given.now) c.args.bound in
    mapped_is fo.And _ (fs (claims_view c.in-And.parts)) _ _ (ap f (ap claim_view c.in-And.is ∙ claim_view-And c.in-And.parts))
    (ap (λ (x : List Claim). fs (claims_view x)) (sym c.as_slice.ensures.items) ∙ c.in-Ok.ensures)
    (formula_view-And c.in-Ok.made)

pub claim-claims-requires : goal.claim-claims-requires
claim-claims-requires t c =
    let is = ap claim_weight (ap claim_view c.in-And.is ∙ claim_view-And c.in-And.parts) in
    let less = claims_fall (left c.args.self.now) (claim_view c.args.claim.now) c.in-And.parts c.as_slice.result.now is
    c.as_slice.ensures.items in
    omega (arith, less)

pub claim-returns-in-Ok-claims : goal.claim-returns-in-Ok-claims
claim-returns-in-Ok-claims t c =
    let f = spec.claim (uses_before c.args.self.now) (map given_view c.args.given.now) c.args.bound in
    let fs = spec.claims (uses_before c.args.self.now) (map given_view c.args.given.now) c.args.bound in
    mapped_is fo.Or _ (fs (claims_view c.in-Or.parts)) _ _ (ap f (ap claim_view c.in-Or.is ∙ claim_view-Or c.in-Or.parts))
    (ap (λ (x : List Claim). fs (claims_view x)) (sym c.as_slice-in-Or.ensures.items) ∙ c.in-Ok-claims.ensures)
    (formula_view-Or c.in-Ok-claims.made)

pub claim-claims-requires-in-Or : goal.claim-claims-requires-in-Or
claim-claims-requires-in-Or t c =
    let is = ap claim_weight (ap claim_view c.in-Or.is ∙ claim_view-Or c.in-Or.parts) in
    let less = claims_fall (left c.args.self.now) (claim_view c.args.claim.now) c.in-Or.parts c.as_slice-in-Or.result.now is
    c.as_slice-in-Or.ensures.items in
    omega (arith, less)

pub claim-returns-in-Ok-boxed_claim : goal.claim-returns-in-Ok-boxed_claim
claim-returns-in-Ok-boxed_claim t c =
    let f = spec.claim (uses_before c.args.self.now) (map given_view c.args.given.now) c.args.bound in
    mapped_is fo.Not _ (f (claim_view c.in-Not.part)) _ _ (ap f (ap claim_view c.in-Not.is ∙ claim_view-Not c.in-Not.part))
    (ap (λ (x : Claim). f (claim_view x)) (sym c.get.ensures) ∙ c.in-Ok-boxed_claim.ensures)
    (formula_view-Not c.in-Ok-boxed_claim.made)

pub claim-boxed_claim-requires : goal.claim-boxed_claim-requires
claim-boxed_claim-requires t c =
    let is = ap claim_weight (ap claim_view c.in-Not.is ∙ claim_view-Not c.in-Not.part) in
    let less = one_claim_falls (left c.args.self.now) (claim_view c.args.claim.now) c.in-Not.part c.get.result.now is
    c.get.ensures in
    omega (arith, less)

pub claim-returns-in-Ok-boxed_claim-2 : goal.claim-returns-in-Ok-boxed_claim-2
claim-returns-in-Ok-boxed_claim-2 t c =
    let f = spec.claim (uses_before c.args.self.now) (map given_view c.args.given.now) c.args.bound in
    let a = c.in_ok-a-in-Implies in
    let b = c.in-Ok-boxed_claim-2 in
    both_is fo.Implies _ (f (claim_view c.in-Implies.a)) (f (claim_view c.in-Implies.b)) _ _ _
    (ap f (ap claim_view c.in-Implies.is ∙ claim_view-Implies c.in-Implies.a c.in-Implies.b))
    (ap (λ (x : Claim). f (claim_view x)) (sym c.get-in-Implies.ensures) ∙ a.ensures)
    (ap (λ (x : Claim). f (claim_view x)) (sym c.get-in-Implies-2.ensures) ∙ b.ensures)
    (formula_view-Implies a.a b.made)

pub claim-boxed_claim-requires-in-Implies : goal.claim-boxed_claim-requires-in-Implies
claim-boxed_claim-requires-in-Implies t c =
    let is = ap claim_weight (ap claim_view c.in-Implies.is ∙ claim_view-Implies c.in-Implies.a c.in-Implies.b) in
    let less = left_claim_falls (left c.args.self.now) (claim_view c.args.claim.now) c.in-Implies.a c.in-Implies.b
    c.get-in-Implies.result.now is c.get-in-Implies.ensures in
    omega (arith, less)

pub claim-boxed_claim-requires-in-Implies-2 : goal.claim-boxed_claim-requires-in-Implies-2
claim-boxed_claim-requires-in-Implies-2 t c =
    let is = ap claim_weight (ap claim_view c.in-Implies.is ∙ claim_view-Implies c.in-Implies.a c.in-Implies.b) in
    let less = right_claim_falls (left c.args.self.now) (claim_view c.args.claim.now) c.in-Implies.a c.in-Implies.b
    c.get-in-Implies-2.result.now is c.get-in-Implies-2.ensures in
    omega (arith, less)

pub claim-returns-in-Ok-scope : goal.claim-returns-in-Ok-scope
claim-returns-in-Ok-scope t c =
    let f = spec.claim (uses_before c.args.self.now) (map given_view c.args.given.now) c.args.bound in
    let inside = spec.claim (uses_before c.args.self.now) (map given_view c.args.given.now) (c.args.bound + 1) in
    mapped_is (fo.All c.in-All.ty) _ (inside (claim_view c.in-All.body)) _ _
    (ap f (ap claim_view c.in-All.is ∙ claim_view-All c.in-All.ty c.in-All.body))
    (ap (λ (x : Claim). inside (claim_view x)) (sym c.get-in-All.ensures) ∙ c.in-Ok-scope.ensures)
    (formula_view-All c.in-All.ty c.in-Ok-scope.made)

pub claim-scope-requires : goal.claim-scope-requires
claim-scope-requires t c =
    let is = ap claim_weight (ap claim_view c.in-All.is ∙ claim_view-All c.in-All.ty c.in-All.body) in
    let less = one_claim_falls (left c.args.self.now) (claim_view c.args.claim.now) c.in-All.body c.get-in-All.result.now is
    c.get-in-All.ensures in
    omega (arith, less)

pub claim-returns-in-Ok-scope-2 : goal.claim-returns-in-Ok-scope-2
claim-returns-in-Ok-scope-2 t c =
    let f = spec.claim (uses_before c.args.self.now) (map given_view c.args.given.now) c.args.bound in
    let inside = spec.claim (uses_before c.args.self.now) (map given_view c.args.given.now) (c.args.bound + 1) in
    mapped_is (fo.Any c.in-Any.ty) _ (inside (claim_view c.in-Any.body)) _ _
    (ap f (ap claim_view c.in-Any.is ∙ claim_view-Any c.in-Any.ty c.in-Any.body))
    (ap (λ (x : Claim). inside (claim_view x)) (sym c.get-in-Any.ensures) ∙ c.in-Ok-scope-2.ensures)
    (formula_view-Any c.in-Any.ty c.in-Ok-scope-2.made)

pub claim-scope-requires-in-Any : goal.claim-scope-requires-in-Any
claim-scope-requires-in-Any t c =
    let is = ap claim_weight (ap claim_view c.in-Any.is ∙ claim_view-Any c.in-Any.ty c.in-Any.body) in
    let less = one_claim_falls (left c.args.self.now) (claim_view c.args.claim.now) c.in-Any.body c.get-in-Any.result.now is
    c.get-in-Any.ensures in
    omega (arith, less)

pub claim-returns-in-Ok-term : goal.claim-returns-in-Ok-term
claim-returns-in-Ok-term t c =
    let f = spec.claim (uses_before c.args.self.now) (map given_view c.args.given.now) c.args.bound in
    let ft = spec.term (uses_before c.args.self.now) (map given_view c.args.given.now) c.args.bound in
    mapped_is fo.Holds _ (ft (term_view c.in-Holds.e)) _ _ (ap f (ap claim_view c.in-Holds.is ∙ claim_view-Holds c.in-Holds.e))
    c.in-Ok-term.ensures (formula_view-Holds c.in-Ok-term.made)

pub claim-returns-in-Ok-term-2 : goal.claim-returns-in-Ok-term-2
claim-returns-in-Ok-term-2 t c =
    let f = spec.claim (uses_before c.args.self.now) (map given_view c.args.given.now) c.args.bound in
    let ft = spec.term (uses_before c.args.self.now) (map given_view c.args.given.now) c.args.bound in
    mapped_is fo.Visible _ (ft (term_view c.in-Visible.e)) _ _
    (ap f (ap claim_view c.in-Visible.is ∙ claim_view-Visible c.in-Visible.e)) c.in-Ok-term-2.ensures
    (formula_view-Visible c.in-Ok-term-2.made)

pub claim-returns-in-Ok-sides : goal.claim-returns-in-Ok-sides
claim-returns-in-Ok-sides t c =
    let f = spec.claim (uses_before c.args.self.now) (map given_view c.args.given.now) c.args.bound in
    let ft = spec.term (uses_before c.args.self.now) (map given_view c.args.given.now) c.args.bound in
    let got = c.in-Ok-sides in
    both_is fo.Equal _ (ft (term_view c.in-Equal.a)) (ft (term_view c.in-Equal.b)) _ _ _
    (ap f (ap claim_view c.in-Equal.is ∙ claim_view-Equal c.in-Equal.a c.in-Equal.b)) got.ensures.left got.ensures.right
    (formula_view-Equal got.sides.0 got.sides.1)

pub claim-returns-in-Ok-sides-2 : goal.claim-returns-in-Ok-sides-2
claim-returns-in-Ok-sides-2 t c =
    let f = spec.claim (uses_before c.args.self.now) (map given_view c.args.given.now) c.args.bound in
    let ft = spec.term (uses_before c.args.self.now) (map given_view c.args.given.now) c.args.bound in
    let got = c.in-Ok-sides-2 in
    both_is fo.Less _ (ft (term_view c.in-Less.a)) (ft (term_view c.in-Less.b)) _ _ _
    (ap f (ap claim_view c.in-Less.is ∙ claim_view-Less c.in-Less.a c.in-Less.b)) got.ensures.left got.ensures.right
    (formula_view-Less got.sides.0 got.sides.1)

pub claim-returns-in-Ok-sides-3 : goal.claim-returns-in-Ok-sides-3
claim-returns-in-Ok-sides-3 t c =
    let f = spec.claim (uses_before c.args.self.now) (map given_view c.args.given.now) c.args.bound in
    let ft = spec.term (uses_before c.args.self.now) (map given_view c.args.given.now) c.args.bound in
    let got = c.in-Ok-sides-3 in
    both_is fo.AtMost _ (ft (term_view c.in-AtMost.a)) (ft (term_view c.in-AtMost.b)) _ _ _
    (ap f (ap claim_view c.in-AtMost.is ∙ claim_view-AtMost c.in-AtMost.a c.in-AtMost.b)) got.ensures.left got.ensures.right
    (formula_view-AtMost got.sides.0 got.sides.1)

pub claim-returns-in-Ok-sides-4 : goal.claim-returns-in-Ok-sides-4
claim-returns-in-Ok-sides-4 t c =
    let f = spec.claim (uses_before c.args.self.now) (map given_view c.args.given.now) c.args.bound in
    let ft = spec.term (uses_before c.args.self.now) (map given_view c.args.given.now) c.args.bound in
    let got = c.in-Ok-sides-4 in
    both_is fo.Before _ (ft (term_view c.in-Before.a)) (ft (term_view c.in-Before.b)) _ _ _
    (ap f (ap claim_view c.in-Before.is ∙ claim_view-Before c.in-Before.a c.in-Before.b)) got.ensures.left got.ensures.right
    (formula_view-Before got.sides.0 got.sides.1)

pub claim-returns-in-Ok-sides-5 : goal.claim-returns-in-Ok-sides-5
claim-returns-in-Ok-sides-5 t c =
    let f = spec.claim (uses_before c.args.self.now) (map given_view c.args.given.now) c.args.bound in
    let ft = spec.term (uses_before c.args.self.now) (map given_view c.args.given.now) c.args.bound in
    let got = c.in-Ok-sides-5 in
    both_is fo.Same _ (ft (term_view c.in-Same.a)) (ft (term_view c.in-Same.b)) _ _ _
    (ap f (ap claim_view c.in-Same.is ∙ claim_view-Same c.in-Same.a c.in-Same.b)) got.ensures.left got.ensures.right
    (formula_view-Same got.sides.0 got.sides.1)

pub claim-returns-in-Ok-term-3 : goal.claim-returns-in-Ok-term-3
claim-returns-in-Ok-term-3 t c =
    let f = spec.claim (uses_before c.args.self.now) (map given_view c.args.given.now) c.args.bound in
    let ft = spec.term (uses_before c.args.self.now) (map given_view c.args.given.now) c.args.bound in
    let fa = spec.arms_of (uses_before c.args.self.now) (map given_view c.args.given.now) c.args.bound in
    let arms = c.in_ok-arms-in-Match in
    let on = c.in-Ok-term-3 in
    both_is fo.Match _ (ft (term_view c.in-Match.on)) (fa (claim_arms_view c.in-Match.arms)) _ _ _
    (ap f (ap claim_view c.in-Match.is ∙ claim_view-Match c.in-Match.on c.in-Match.arms)) on.ensures
    (ap (λ (x : List ClaimArm). fa (claim_arms_view x)) (sym c.as_slice-in-Match.ensures.items) ∙ arms.ensures)
    (formula_view-Match on.made arms.arms)

pub claim-arms-requires : goal.claim-arms-requires
claim-arms-requires t c =
    let is = ap claim_weight (ap claim_view c.in-Match.is ∙ claim_view-Match c.in-Match.on c.in-Match.arms) in
    let less = arms_fall (left c.args.self.now) (claim_view c.args.claim.now) c.in-Match.arms c.as_slice-in-Match.result.now is
    c.as_slice-in-Match.ensures.items in
    omega (arith, less)

pub claim-returns-in-Use : goal.claim-returns-in-Use
claim-returns-in-Use t c =
    let f = spec.claim (uses_before c.args.self.now) (map given_view c.args.given.now) c.args.bound in
    let u = uses_before c.args.self.now in
    let of_args = λ (es : List Term). option_map values.as_formula
    (u c.in-Use.decl (spec.arguments u (map given_view c.args.given.now) c.args.bound (terms_view es))) in
    let was = ap f (ap claim_view c.in-Use.is ∙ claim_view-Use c.in-Use.decl c.in-Use.args)
    ∙ ap of_args (sym c.as_slice-in-Use.ensures.items) in
    then_ok c.used_claim.result _ _ (λ e is. was ∙ is) c.used_claim.ensures

pub claim-used_claim-requires : goal.claim-used_claim-requires
claim-used_claim-requires t c =
    let is : claim_weight (claim_view c.args.claim.now) ≡ 1 = ap claim_weight (ap claim_view c.in-Use.is
    ∙ claim_view-Use c.in-Use.decl c.in-Use.args) in
    omega (arith, is)

pub claims-claim-requires : goal.claims-claim-requires
claims-claim-requires t c =
    let less = claim_weight_in c.args.claims.now c.loop-part.part-index c.part-item.result c.loop-part-test.true
    c.part-item.is in
    omega (arith, less)

pub arms-claim-requires : goal.arms-claim-requires
arms-claim-requires t c =
    let less = arm_weight_in c.args.arms.now c.loop-arm.arm-index c.arm-item.result c.loop-arm-test.true c.arm-item.is in
    omega (arith, less)

pub arms-loop-arm-preserved : goal.arms-loop-arm-preserved
arms-loop-arm-preserved t c =
    let u = uses_before c.args.self.now in
    let g = map given_view c.args.given.now in
    let arm = c.arm-item.result in
    one_more (λ a. arm_made u g c.args.bound (claim_arm_view a)) arm_view c.args.arms.now c.loop-arm.arm-index arm
    c.loop-arm.made c.push.new.self _ c.loop-arm-test.true c.arm-item.is
    (arm_found u g c.args.bound arm c.in_ok-inside.inside _ c.in_ok-inside.ensures refl c.in_ok-body.ensures)
    c.in_ok-push.ensures.ok c.loop-arm.invariant

pub boxed_claim-returns : goal.boxed_claim-returns
boxed_claim-returns t c =
    then_ok c.new.result _ _ (λ e is. c.in_ok-claim.ensures ∙ ap (λ (x : Formula). Some (formula_view x)) (sym is))
    c.new.ensures

pub scope-returns : goal.scope-returns
scope-returns t c =
    let f = λ (k : ℕ). spec.claim (uses_before c.args.self.now) (map given_view c.args.given.now) k
    (claim_view c.args.body.now) in
    then_ok c.boxed_claim.result _ _ (λ e is. ap f (sym c.in_ok-inside.ensures) ∙ is) c.boxed_claim.ensures

pub used_claim-returns-in-Some-Claim : goal.used_claim-returns-in-Some-Claim
used_claim-returns-in-Some-Claim t c =
    let saids = saids_in c.args.self.now.bodies.now in
    let said : said_at saids c.args.decl ≡ Some (said_claim (claim_view c.get.result.now)) =
    c.in-Some-Claim.ensures.said ∙ ap (λ (b : Body). Some (body_view b)) c.in-Some-Claim.field-0-is
    ∙ ap (λ (e : Claim). Some (said_claim (claim_view e))) (sym c.get.ensures) in
    let all = spec.arguments (uses_before c.args.self.now) (map given_view c.args.given.now) c.args.bound
    (terms_view c.args.args.now) in
    let few = map given_view c.as_slice.result.now in
    let among : AreAmong few all =
    subst (λ (es : List (Option Expr)). AreAmong (map given_view es) all) (sym c.as_slice.ensures.items) c.in_ok-args.ensures in
    let same = same_uses c.inside.result c.args.self.now.bodies.now c.args.decl c.inside.ensures.same c.inside.ensures.before in
    then_ok c.claim.result _ _
    (λ e found. claim_used saids c.args.self.now.before c.args.decl few all (claim_view c.get.result.now) (formula_view e)
    (uses_before c.inside.result)
    c.in-Some-Claim.ensures.before among said same found) c.claim.ensures

pub used_claim-claim-requires : goal.used_claim-claim-requires
used_claim-claim-requires t c =
    let saids = saids_in c.args.self.now.bodies.now in
    let said : said_at saids c.args.decl ≡ Some (said_claim (claim_view c.get.result.now)) =
    c.in-Some-Claim.ensures.said ∙ ap (λ (b : Body). Some (body_view b)) c.in-Some-Claim.field-0-is
    ∙ ap (λ (e : Claim). Some (said_claim (claim_view e))) (sym c.get.ensures) in
    let is = left_inside c.inside.result c.args.self.now.bodies.now c.args.decl c.inside.ensures.same c.inside.ensures.before in
    let less = claim_body_falls saids c.args.self.now.before c.args.decl (left c.inside.result) (claim_view c.get.result.now)
    c.in-Some-Claim.ensures.before said is in
    omega (arith, less)
