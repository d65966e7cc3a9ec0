use Rattle.rp_logic.proofs.ListViews.{dual-And, dual-Or}
use Rattle.rp_logic.proofs.negation.+dual.Goals as goal

pub dual_of-returns-in_ok-duals_of-in-And : goal.dual_of-returns-in_ok-duals_of-in-And
dual_of-returns-in_ok-duals_of-in-And t c = dual-And _ _ _ _ c.in-And.is c.as_slice.ensures.items c.in_ok-duals_of-in-And.ensures

pub dual_of-returns-in_ok-duals_of-in-Or : goal.dual_of-returns-in_ok-duals_of-in-Or
dual_of-returns-in_ok-duals_of-in-Or t c = dual-Or _ _ _ _ c.in-Or.is c.as_slice-in-Or.ensures.items c.in_ok-duals_of-in-Or.ensures
