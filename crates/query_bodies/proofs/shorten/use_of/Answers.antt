use Rattle.std.proofs.Common.{◌≡◌, Some, ap, sym, subst, ◌∙◌}
use Rattle.query_bodies.specs.declared.term.Term.{Term}
use Rattle.query_bodies.specs.declared.term.Body.{Body}
use Rattle.query_bodies.specs.declared.claim.Claim.{Claim}
use Rattle.query_bodies.specs.Expanded.{IsUse, said_at}
use Rattle.query_bodies.specs.Seen.{saids_in}
use Rattle.query_bodies.specs.Terms.{said_term, said_claim}
use Rattle.query_bodies.specs.Views.{body_view, claim_view, term_view, terms_view}
use Rattle.query_bodies.proofs.shorten.use_of.Goals as goal

pub returns-in_ok-new-in-Some-Term : goal.returns-in_ok-new-in-Some-Term
returns-in_ok-new-in-Some-Term c =
    let saids = saids_in c.args.bodies.now in
    let here = sym c.in-Some-Term.ensures ∙ ap (λ (b : Body). Some (body_view b)) c.in-Some-Term.field-0-is in
    let got = c.get.ensures in
    let said : said_at saids c.args.decl ≡ Some (said_term (term_view c.get.result.now)) =
    here ∙ ap (λ (e : Term). Some (said_term (term_view e))) (sym got) in
    subst (λ (e : Term). IsUse saids (said_term (term_view e)) c.args.decl (terms_view c.args.args))
    (sym c.in_ok-new-in-Some-Term.ensures)
    (c.in_ok-made-in-Some-Term.ensures saids said)

pub returns-in_ok-new-in-Some-Claim : goal.returns-in_ok-new-in-Some-Claim
returns-in_ok-new-in-Some-Claim c =
    let saids = saids_in c.args.bodies.now in
    let here = sym c.in-Some-Claim.ensures ∙ ap (λ (b : Body). Some (body_view b)) c.in-Some-Claim.field-0-is in
    let got = c.get-in-Some-Claim.ensures in
    let said : said_at saids c.args.decl ≡ Some (said_claim (claim_view c.get-in-Some-Claim.result.now)) =
    here ∙ ap (λ (e : Claim). Some (said_claim (claim_view e))) (sym got) in
    subst (λ (e : Claim). IsUse saids (said_claim (claim_view e)) c.args.decl (terms_view c.args.args))
    (sym c.in_ok-new-in-Some-Claim.ensures)
    (c.in_ok-made-in-Some-Claim.ensures saids said)
