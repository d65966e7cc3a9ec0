use Rattle.std.proofs.Common.{◌≡◌, drop}
use Rattle.rp_logic.specs.Views.{formulas_view}
use Rattle.spent_defs.specs.SameFormulas.{same_fms}
use Rattle.spent_tests.proofs.same.+is_same_formula.Given as goal

abbrev pub invariant-are_same_formulas-loop-i : goal.invariant-are_same_formulas-loop-i
invariant-are_same_formulas-loop-i l =
    same_fms (formulas_view l.a) (formulas_view l.b)
    ≡ same_fms (formulas_view (drop l.i l.a)) (formulas_view (drop l.i l.b))
