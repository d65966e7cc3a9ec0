use Rattle.rp_logic.proofs.ListViews.{made-Fn, made-Con}
use Rattle.rp_logic.proofs.substitution.+in_term.Goals as goal

pub in_term-returns-in_ok-in_terms-in-Fn : goal.in_term-returns-in_ok-in_terms-in-Fn
in_term-returns-in_ok-in_terms-in-Fn t c = made-Fn _ _ _ _ _ _ _ c.in-Fn.is c.as_slice.ensures.items c.in_ok-in_terms-in-Fn.ensures

pub in_term-returns-in_ok-in_terms-in-Con : goal.in_term-returns-in_ok-in_terms-in-Con
in_term-returns-in_ok-in_terms-in-Con t c = made-Con _ _ _ _ _ _ _ c.in-Con.is c.as_slice-in-Con.ensures.items c.in_ok-in_terms-in-Con.ensures
