use Rattle.std.proofs.Common.{ap, ◌∙◌}
use Rattle.query_bodies.specs.declared.claim.Claim.TheVariants as made
use Rattle.query_bodies.specs.Views.{claim_view}
use Rattle.query_bodies.proofs.ClaimViews.{claim_view-Use}
use Rattle.query_bodies.proofs.ShortenedUses.{claim_handed_on, claim_itself}
use Rattle.query_bodies.proofs.shorten.claim_use.Goals as goal

pub returns-in-Some : goal.returns-in-Some
returns-in-Some c =
    let found = c.in_ok-joined-in-Use in
    claim_handed_on c.args.decl c.in-Use.further c.args.body.now (made.Use c.in-Use.further c.in-Some.joined) c.in-Use.inner
    c.args.args c.in-Some.joined
    c.as_slice-in-Use.result.now c.as_slice.result.now found.field-0
    (ap claim_view c.in-Use.is ∙ claim_view-Use c.in-Use.further c.in-Use.inner)
    (claim_view-Use c.in-Use.further c.in-Some.joined)
    c.in-Some.is found.ensures.before found.ensures.put c.as_slice.ensures.items c.as_slice-in-Use.ensures.items

pub returns-in-None : goal.returns-in-None
returns-in-None c = claim_itself c.args.decl c.args.body.now (made.Use c.args.decl c.args.args) c.args.args
    (claim_view-Use c.args.decl c.args.args)

pub returns-in_default : goal.returns-in_default
returns-in_default c = claim_itself c.args.decl c.args.body.now (made.Use c.args.decl c.args.args) c.args.args
    (claim_view-Use c.args.decl c.args.args)
