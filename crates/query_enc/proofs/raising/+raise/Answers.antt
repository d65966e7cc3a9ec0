use Rattle.std.proofs.Common.{map, ap, ◌∙◌}
use Rattle.std.proofs.lemmas.List.{take_all}
use Rattle.rp_logic.specs.Filling.{raised}
use Rattle.rp_logic.specs.Views.{term_view}
use Rattle.query_enc.proofs.TermLists.{raised-Fn, raised-Con}
use Rattle.query_enc.proofs.raising.+raise.Goals as goal

pub raise-returns-in_ok-raise_each-in-Fn : goal.raise-returns-in_ok-raise_each-in-Fn
raise-returns-in_ok-raise_each-in-Fn t c =
    raised-Fn _ _ _ _ _ _ c.in-Fn.is c.as_slice.ensures.items c.in_ok-raise_each-in-Fn.ensures

pub raise-returns-in_ok-raise_each-in-Con : goal.raise-returns-in_ok-raise_each-in-Con
raise-returns-in_ok-raise_each-in-Con t c =
    raised-Con _ _ _ _ _ _ c.in-Con.is c.as_slice-in-Con.ensures.items c.in_ok-raise_each-in-Con.ensures

pub raise_each-returns : goal.raise_each-returns
raise_each-returns t c =
    c.loop-u.invariant ∙ ap (λ us. map (λ u. raised c.args.k (term_view u)) us) (take_all c.loop-u.u-index c.args.terms.now c.loop-u-test.false)
