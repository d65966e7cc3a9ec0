use Rattle.std.proofs.Common.{◌≡◌}
use Rattle.rp_logic.specs.Views.{formula_view}
use Rattle.axiom_forms.specs.Literals.{alls}
use Rattle.axiom_forms.proofs.clauses.alls.Given as goal

abbrev pub invariant-loop-i : goal.invariant-loop-i
invariant-loop-i l = formula_view l.made ≡ alls l.sort l._i (formula_view l.fn.f)
