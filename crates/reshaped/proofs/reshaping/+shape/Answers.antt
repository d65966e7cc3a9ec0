use Rattle.std.proofs.Common.{◌≡◌, map, ap, subst, ◌∙◌, IfOk}
use Rattle.std.proofs.lemmas.List.{take_all}
use Rattle.rp_logic.specs.Dual.{dual}
use Rattle.rp_logic.specs.Views.{formula_view}
use Rattle.reshaped.specs.Shapes.{shaped}
use Rattle.reshaped.proofs.ClauseViews.{shaped-And, shaped-Or}
use Rattle.reshaped.proofs.reshaping.+shape.Goals as goal

pub shape-returns-in_ok-made-in-And : goal.shape-returns-in_ok-made-in-And
shape-returns-in_ok-made-in-And t c =
    subst (λ x. IfOk c.conjunction.result (λ g. formula_view g ≡ x)) (shaped-And _ _ _ _ c.in-And.is c.as_slice.ensures.items c.in_ok-made-in-And.ensures) c.conjunction.ensures

pub shape-returns-in_ok-made-in-Or : goal.shape-returns-in_ok-made-in-Or
shape-returns-in_ok-made-in-Or t c =
    subst (λ x. IfOk c.clause_of.result (λ g. formula_view g ≡ x)) (shaped-Or _ _ _ _ c.in-Or.is c.as_slice-in-Or.ensures.items c.in_ok-made-in-Or.ensures) c.clause_of.ensures

pub shape_each-returns : goal.shape_each-returns
shape_each-returns t c = c.loop-f.invariant ∙ ap (λ fs. map (λ f. shaped (formula_view f)) fs) (take_all c.loop-f.f-index c.args.formulas.now c.loop-f-test.false)

pub shape_denied-returns : goal.shape_denied-returns
shape_denied-returns t c = c.loop-f.invariant ∙ ap (λ fs. map (λ f. dual (shaped (formula_view f))) fs) (take_all c.loop-f.f-index c.args.formulas.now c.loop-f-test.false)
