use Rattle.std.proofs.Common.{◌≡◌, drop, length}
use Rattle.rp_logic.specs.Views.{terms_view}
use Rattle.rp_logic.specs.Scopes.{scope_view}
use Rattle.spent_defs.specs.Atoms.{some_hold_var}
use Rattle.spent_tests.proofs.bodies.+holds_var.Given as goal

abbrev pub invariant-some_hold_var-loop-t : goal.invariant-some_hold_var-loop-t
invariant-some_hold_var-loop-t l =
    some_hold_var (length (scope_view l.inner)) (terms_view l.terms)
    ≡ some_hold_var (length (scope_view l.inner)) (terms_view (drop l.t-index l.terms))
