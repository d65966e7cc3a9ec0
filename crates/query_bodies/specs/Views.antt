-- What the code's terms and formulas are seen as.
use Rattle.std.specs.Prelude.{ℕ, List, [], ◌∷◌, map, Option, Some, None}
use Rattle.rp_lang.specs.declared.expr.Expr.{Expr}
use Rattle.rp_lang.specs.Exprs.{Ex}
use Rattle.rp_lang.specs.Views.{expr_view}
use Rattle.query_bodies.specs.Terms as te
use Rattle.query_bodies.specs.Terms.{Te, Tes, no_te, also_te, Cl, Cls, no_cl, also_cl, ClArms, no_cl_arm, also_cl_arm, Said, said_term, said_claim}
use Rattle.query_bodies.specs.declared.term.Term.{Term}
use Rattle.query_bodies.specs.declared.term.Term.TheOpen as term
use Rattle.query_bodies.specs.declared.term.Term.TheFolds.{fold-Term}
use Rattle.query_bodies.specs.declared.term.Body as code_body
use Rattle.query_bodies.specs.declared.term.Body.TheVariants as body
use Rattle.query_bodies.specs.declared.claim.Claim.{Claim}
use Rattle.query_bodies.specs.declared.claim.ClaimArm.{ClaimArm}
use Rattle.query_bodies.specs.declared.claim.Claim.TheOpen as claim
use Rattle.query_bodies.specs.declared.claim.Claim.TheFolds.{fold-Claim, fold-ClaimArm}

-- # Terms

abbrev pub tes_of : List Te → Tes
tes_of [] = no_te
tes_of (e ∷ es) = also_te e (tes_of es)

abbrev pub term_step : term.Term-F Te → Te
term_step (term.Slot s) = te.Slot s
term_step (term.Param p) = te.Param p
term_step (term.Level n) = te.Level n
term_step (term.Int n) = te.Int n
term_step (term.Str bytes) = te.Str bytes
term_step (term.Con con args) = te.Con con (tes_of args)
term_step (term.Sum a b) = te.Sum a b
term_step (term.Difference a b) = te.Difference a b
term_step (term.Query query args) = te.Query query (tes_of args)
term_step (term.OpOf call) = te.OpOf call
term_step (term.OpTerm op args) = te.OpTerm op (tes_of args)
term_step (term.OriginOf call) = te.OriginOf call
term_step (term.InfoOf inv) = te.InfoOf inv
term_step (term.InfoTerm proc args) = te.InfoTerm proc (tes_of args)
term_step (term.ResultOf inv) = te.ResultOf inv
term_step (term.ResultTerm proc None) = te.ResultTerm proc
term_step (term.ResultTerm proc (Some value)) = te.ResultWith proc value
term_step term.Unreturned = te.Unreturned
term_step (term.Use decl args) = te.Use decl (tes_of args)

abbrev pub term_view : Term → Te
term_view = fold-Term Te term_step

abbrev pub terms_view : List Term → Tes
terms_view es = tes_of (map term_view es)

-- # Formulas

-- an arm: its constructor, how many variables it binds, and its body
abbrev pub ArmView : Type 0
ArmView = (ℕ × ℕ) × Cl

abbrev pub cls_of : List Cl → Cls
cls_of [] = no_cl
cls_of (f ∷ fs) = also_cl f (cls_of fs)

abbrev pub arms_of : List ArmView → ClArms
arms_of [] = no_cl_arm
arms_of (a ∷ arms) = also_cl_arm a.0.0 a.0.1 a.1 (arms_of arms)

abbrev pub claim_step : claim.Claim-F Cl ArmView → Cl
claim_step (claim.And parts) = te.And (cls_of parts)
claim_step (claim.Or parts) = te.Or (cls_of parts)
claim_step (claim.Not part) = te.Not part
claim_step (claim.Implies a b) = te.Implies a b
claim_step (claim.All ty body) = te.All ty body
claim_step (claim.Any ty body) = te.Any ty body
claim_step (claim.Holds e) = te.Holds (term_view e)
claim_step (claim.Equal a b) = te.Equal (term_view a) (term_view b)
claim_step (claim.Less a b) = te.Less (term_view a) (term_view b)
claim_step (claim.AtMost a b) = te.AtMost (term_view a) (term_view b)
claim_step (claim.Visible e) = te.Visible (term_view e)
claim_step (claim.Before a b) = te.Before (term_view a) (term_view b)
claim_step (claim.Same a b) = te.Same (term_view a) (term_view b)
claim_step (claim.Match on arms) = te.Match (term_view on) (arms_of arms)
claim_step (claim.Use decl args) = te.UseCl decl (terms_view args)

abbrev pub arm_step : claim.ClaimArm-F Cl ArmView → ArmView
arm_step a = ((a.con, a.binds), a.body)

abbrev pub claim_view : Claim → Cl
claim_view = fold-Claim Cl ArmView claim_step arm_step

abbrev pub claim_arm_view : ClaimArm → ArmView
claim_arm_view = fold-ClaimArm Cl ArmView claim_step arm_step

abbrev pub claims_view : List Claim → Cls
claims_view fs = cls_of (map claim_view fs)

abbrev pub claim_arms_view : List ClaimArm → ClArms
claim_arms_view arms = arms_of (map claim_arm_view arms)

abbrev pub body_view : code_body.Body → Said
body_view (body.Term e) = said_term (term_view e)
body_view (body.Claim f) = said_claim (claim_view f)

-- # Arguments

-- what a parameter stands for, where it stands somewhere
abbrev pub given_view : Option Expr → Option Ex
given_view None = None
given_view (Some e) = Some (expr_view e)
