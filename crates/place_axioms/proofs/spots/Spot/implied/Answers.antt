use Rattle.std.proofs.Common.{◌≡◌, refl, ap, sym, subst, ◌∙◌}
use Rattle.rp_logic.specs.Dual.{duals}
use Rattle.rp_logic.specs.Formulas.{Or, no_fm, also_fm}
use Rattle.rp_logic.specs.Views.{formula_view, formulas_view}
use Rattle.rp_logic.proofs.FormulaViews.{formula_view-Or}
use Rattle.reshape.specs.Joined.{joined}
use Rattle.hist_struct.specs.Axioms.{implied}
use Rattle.query_enc.proofs.Joins.{one_more}
use Rattle.place_axioms.specs.Spots.{Reached, spot_view}
use Rattle.place_axioms.proofs.SpotViews.{spot_view-Part}
use Rattle.place_axioms.proofs.spots.Spot.implied.Goals as goal

pub returns-in_ok-new-in-Part : goal.returns-in_ok-new-in-Part
returns-in_ok-new-in-Part c =
    let s = spot_view c.args.self.now in
    let whole = formula_view c.args.f in
    let is = ap spot_view c.in-Part.is ∙ spot_view-Part c.in-Part.field-0 c.in-Part.field-1 c.in-Part.field-2 c.in-Part.field-3 in
    let told : Or (joined (duals s.given) (also_fm whole no_fm)) ≡ implied s.given whole =
    subst (λ (r : Reached). Or (joined (duals r.given) (also_fm whole no_fm)) ≡ implied r.given whole) (sym is) refl in
    ap formula_view c.in_ok-new-in-Part.ensures ∙ formula_view-Or c.push.new.self
    ∙ ap Or
    (one_more c.push.new.self c.push_denials.new.out c.into_inner.result c.in_ok-push-in-Part.ensures.ok
    ∙ ap (λ g. joined (formulas_view c.push_denials.new.out) (also_fm g no_fm)) (ap formula_view c.into_inner.ensures)
    ∙ ap (λ fs. joined fs (also_fm whole no_fm))
    (c.in_ok-push_denials-in-Part.ensures ∙ ap (λ ps. joined (formulas_view ps) (duals s.given)) c.new-parts.ensures))
    ∙ told
