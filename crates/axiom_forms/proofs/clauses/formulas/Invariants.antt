use Rattle.std.proofs.Common.{◌≡◌, map, take}
use Rattle.rp_logic.specs.Views.{formula_view}
use Rattle.axiom_forms.specs.Literals.{literal_view}
use Rattle.axiom_forms.proofs.clauses.formulas.Given as goal

abbrev pub invariant-loop-literal : goal.invariant-loop-literal
invariant-loop-literal l = map formula_view l.fs ≡ map literal_view (take l.literal-index l.literals)
