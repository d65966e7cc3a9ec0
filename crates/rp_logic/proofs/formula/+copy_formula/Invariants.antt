use Rattle.std.proofs.Common.{◌≡◌, take}
use Rattle.rp_logic.proofs.formula.+copy_formula.Given as goal

abbrev pub invariant-copy_formulas-loop-formula : goal.invariant-copy_formulas-loop-formula
invariant-copy_formulas-loop-formula l = l.copies ≡ take l.formula-index l.formulas
