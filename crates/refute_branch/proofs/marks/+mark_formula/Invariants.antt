use Rattle.std.proofs.Common.{◌≡◌, drop, reverse}
use Rattle.rp_logic.specs.Views.{formulas_view}
use Rattle.refute_branch.specs.means.Marking.{with_formulas}
use Rattle.refute_branch.proofs.marks.+mark_formula.Given as goal

abbrev pub invariant-mark_formulas-loop-f : goal.invariant-mark_formulas-loop-f
invariant-mark_formulas-loop-f l =
    with_formulas l.consts l.place (formulas_view l.formulas) (reverse l.initial.marks)
    ≡ with_formulas l.consts l.place (formulas_view (drop l.f-index l.formulas)) (reverse l.marks)
