use Rattle.std.proofs.Common.{map, ap, ◌∙◌}
use Rattle.std.proofs.lemmas.List.{take_all}
use Rattle.rp_logic.specs.Filling.{filled}
use Rattle.rp_logic.specs.Views.{term_view}
use Rattle.reshaped.specs.Fillings.{filling_view, under}
use Rattle.reshaped.proofs.FillViews.{filled-Fn, filled-Con}
use Rattle.reshaped.proofs.terms.+fill_term.Goals as goal

pub fill_term-returns-in_ok-fill_terms-in-Fn : goal.fill_term-returns-in_ok-fill_terms-in-Fn
fill_term-returns-in_ok-fill_terms-in-Fn t c = filled-Fn (under c.args.k (filling_view c.args.what.now)) _ _ _ _ _ c.in-Fn.is c.as_slice.ensures.items c.in_ok-fill_terms-in-Fn.ensures

pub fill_term-returns-in_ok-fill_terms-in-Con : goal.fill_term-returns-in_ok-fill_terms-in-Con
fill_term-returns-in_ok-fill_terms-in-Con t c = filled-Con (under c.args.k (filling_view c.args.what.now)) _ _ _ _ _ c.in-Con.is c.as_slice-in-Con.ensures.items c.in_ok-fill_terms-in-Con.ensures

pub fill_terms-returns : goal.fill_terms-returns
fill_terms-returns t c =
    c.loop-u.invariant
    ∙ ap (λ us. map (λ u. filled (under c.args.k (filling_view c.args.what.now)) (term_view u)) us) (take_all c.loop-u.u-index c.args.terms.now c.loop-u-test.false)
