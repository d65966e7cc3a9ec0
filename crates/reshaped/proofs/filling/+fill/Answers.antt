use Rattle.std.proofs.Common.{map, ap, ◌∙◌}
use Rattle.std.proofs.lemmas.List.{take_all}
use Rattle.rp_logic.specs.Filling.{filled_in}
use Rattle.rp_logic.specs.Views.{formula_view}
use Rattle.reshaped.specs.Fillings.{filling_view, under}
use Rattle.reshaped.proofs.FillViews.{filled-And, filled-Or, filled-All, filled-Ex}
use Rattle.reshaped.proofs.filling.+fill.Goals as goal

pub fill-returns-in_ok-fill_each-in-And : goal.fill-returns-in_ok-fill_each-in-And
fill-returns-in_ok-fill_each-in-And t c = filled-And (under c.args.k (filling_view c.args.what.now)) _ _ _ _ c.in-And.is c.as_slice.ensures.items c.in_ok-fill_each-in-And.ensures

pub fill-returns-in_ok-fill_each-in-Or : goal.fill-returns-in_ok-fill_each-in-Or
fill-returns-in_ok-fill_each-in-Or t c = filled-Or (under c.args.k (filling_view c.args.what.now)) _ _ _ _ c.in-Or.is c.as_slice-in-Or.ensures.items c.in_ok-fill_each-in-Or.ensures

pub fill-returns-in_ok-made-in-All : goal.fill-returns-in_ok-made-in-All
fill-returns-in_ok-made-in-All t c =
    filled-All c.args.k _ (filling_view c.args.what.now) _ _ _ _ _ c.in-All.is c.get.ensures c.in_ok-inner-in-All.ensures
    (ap formula_view c.in_ok-made-in-All.ensures ∙ c.in_ok-fill-in-All.ensures)

pub fill-returns-in_ok-made-in-Ex : goal.fill-returns-in_ok-made-in-Ex
fill-returns-in_ok-made-in-Ex t c =
    filled-Ex c.args.k _ (filling_view c.args.what.now) _ _ _ _ _ c.in-Ex.is c.get-in-Ex.ensures c.in_ok-inner-in-Ex.ensures
    (ap formula_view c.in_ok-made-in-Ex.ensures ∙ c.in_ok-fill-in-Ex.ensures)

pub fill_each-returns : goal.fill_each-returns
fill_each-returns t c =
    c.loop-f.invariant
    ∙ ap (λ fs. map (λ f. filled_in (under c.args.k (filling_view c.args.what.now)) (formula_view f)) fs) (take_all c.loop-f.f-index c.args.formulas.now c.loop-f-test.false)
