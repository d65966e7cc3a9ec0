use Rattle.std.proofs.Common.{ap, ◌∙◌}
use Rattle.query_bodies.specs.declared.term.Term.TheVariants as made
use Rattle.query_bodies.specs.Views.{term_view}
use Rattle.query_bodies.proofs.TermViews.{term_view-Use, term_view-Param}
use Rattle.query_bodies.proofs.ShortenedUses.{term_handed_on, term_itself, term_argument, ok_then}
use Rattle.query_bodies.proofs.shorten.term_use.Goals as goal

pub returns-in-Some : goal.returns-in-Some
returns-in-Some c =
    let found = c.in_ok-joined-in-Use in
    term_handed_on c.args.decl c.in-Use.further c.args.body.now (made.Use c.in-Use.further c.in-Some.joined) c.in-Use.inner
    c.args.args c.in-Some.joined
    c.as_slice-in-Use.result.now c.as_slice.result.now found.field-0
    (ap term_view c.in-Use.is ∙ term_view-Use c.in-Use.further c.in-Use.inner) (term_view-Use c.in-Use.further c.in-Some.joined)
    c.in-Some.is found.ensures.before found.ensures.put c.as_slice.ensures.items c.as_slice-in-Use.ensures.items

pub returns-in-None : goal.returns-in-None
returns-in-None c = term_itself c.args.decl c.args.body.now (made.Use c.args.decl c.args.args) c.args.args
    (term_view-Use c.args.decl c.args.args)

pub returns-in_default : goal.returns-in_default
returns-in_default c = term_itself c.args.decl c.args.body.now (made.Use c.args.decl c.args.args) c.args.args
    (term_view-Use c.args.decl c.args.args)

pub returns-in-Param : goal.returns-in-Param
returns-in-Param c =
    ok_then c.nth.result _ _ (λ e found. term_argument c.args.decl c.in-Param.param c.args.body.now e c.args.args
    (ap term_view c.in-Param.is ∙ term_view-Param c.in-Param.param) found) c.nth.ensures
