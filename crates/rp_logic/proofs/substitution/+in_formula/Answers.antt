use Rattle.rp_logic.proofs.ListViews.{instance-And, instance-Or}
use Rattle.rp_logic.proofs.substitution.+in_formula.Goals as goal

pub in_formula-returns-in_ok-in_formulas-in-And : goal.in_formula-returns-in_ok-in_formulas-in-And
in_formula-returns-in_ok-in_formulas-in-And t c = instance-And _ _ _ _ _ _ c.in-And.is c.as_slice.ensures.items c.in_ok-in_formulas-in-And.ensures

pub in_formula-returns-in_ok-in_formulas-in-Or : goal.in_formula-returns-in_ok-in_formulas-in-Or
in_formula-returns-in_ok-in_formulas-in-Or t c = instance-Or _ _ _ _ _ _ c.in-Or.is c.as_slice-in-Or.ensures.items c.in_ok-in_formulas-in-Or.ensures
