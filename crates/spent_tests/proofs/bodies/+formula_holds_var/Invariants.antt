use Rattle.std.proofs.Common.{◌≡◌, drop, length}
use Rattle.rp_logic.specs.Views.{formulas_view}
use Rattle.rp_logic.specs.Scopes.{scope_view}
use Rattle.spent_defs.specs.Atoms.{some_atom_of, atom_holds_var}
use Rattle.spent_tests.proofs.bodies.+formula_holds_var.Given as goal

abbrev pub invariant-some_formula_holds_var-loop-f : goal.invariant-some_formula_holds_var-loop-f
invariant-some_formula_holds_var-loop-f l =
    some_atom_of atom_holds_var (length (scope_view l.inner)) (formulas_view l.formulas)
    ≡ some_atom_of atom_holds_var (length (scope_view l.inner)) (formulas_view (drop l.f-index l.formulas))
