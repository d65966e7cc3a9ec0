use Rattle.std.proofs.Common.{ap, sym, ◌∙◌}
use Rattle.rp_logic.specs.Dual.{dual, duals}
use Rattle.rp_logic.specs.Views.{formulas_view, term_view}
use Rattle.reshape.specs.Joined.{joined}
use Rattle.hist_struct.specs.Axioms.{is_built}
use Rattle.place_axioms.specs.Spots.{Reached, spot_view}
use Rattle.place_axioms.proofs.Denials.{and_then}
use Rattle.place_axioms.proofs.Next.{on_ok}
use Rattle.place_axioms.proofs.SpotViews.{spot_view-Part}
use Rattle.place_axioms.proofs.spots.Spot.+push_denials.Goals as goal

pub returns-in_ok-push-in-Part : goal.returns-in_ok-push-in-Part
returns-in_ok-push-in-Part t c =
    let out = c.args.out.now in
    let given = duals (spot_view c.in-Part.whole.now).given in
    on_ok c.push_denials.result
    (λ k. and_then out c.push.new.self c.push_denials.new.out c.in_ok-not_built-in-Part.field-0 (dual (is_built c.in-Part.con c.in-Part.places (spot_view c.in-Part.whole.now).term)) given
    c.in_ok-push-in-Part.ensures.ok
    (c.in_ok-not_built-in-Part.ensures ∙ ap (λ u. dual (is_built c.in-Part.con c.in-Part.places u)) (ap term_view c.in_ok-on-in-Part.ensures ∙ c.in_ok-term-in-Part.ensures)) k
    ∙ ap (λ (r : Reached). joined (formulas_view out) (duals r.given)) (sym (ap spot_view c.in-Part.is ∙ spot_view-Part _ _ _ _)))
    c.push_denials.ensures
