use Rattle.std.proofs.Common.{◌≡◌, take}
use Rattle.rp_logic.proofs.formula.+same_formula.Given as goal

abbrev pub invariant-same_formulas-loop-i : goal.invariant-same_formulas-loop-i
invariant-same_formulas-loop-i l = take l.i l.a ≡ take l.i l.b
