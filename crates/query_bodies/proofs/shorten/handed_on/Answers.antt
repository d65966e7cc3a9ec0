use Rattle.std.proofs.Common.{◌∙◌, ap, sym, refl, length}
use Rattle.std.proofs.lemmas.Bool.{ltb-true}
use Rattle.std.proofs.lemmas.Option.{slice_get_read}
use Rattle.query_bodies.specs.Views.{term_view}
use Rattle.query_bodies.proofs.TermViews.{term_view-Param}
use Rattle.query_bodies.proofs.ShortenedUses.{leaf_is_put, found_then}
use Rattle.query_bodies.proofs.shorten.handed_on.Goals as goal

pub returns-in-Some : goal.returns-in-Some
returns-in-Some c =
    let outer = c.args.outer.now in
    let at = slice_get_read outer (length outer) _ _ refl (ltb-true _ _ (sym c.in-Some.ensures.lookup.0))
    c.in-Some.ensures.lookup.1 in
    found_then c.leaf.result _ _ (λ e is. leaf_is_put outer _ c.args.arg.now c.in-Some.whole.now e at
    (ap term_view c.in-Param.is ∙ term_view-Param _) is) c.leaf.ensures
