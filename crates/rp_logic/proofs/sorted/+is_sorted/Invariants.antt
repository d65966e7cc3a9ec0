use Rattle.std.proofs.Common.{◌≡◌, drop}
use Rattle.rp_logic.specs.SigView.{sig_view}
use Rattle.rp_logic.specs.Scopes.{scope_view}
use Rattle.rp_logic.specs.means.FormulaTests.{sort_tests}
use Rattle.rp_logic.specs.Views.{formulas_view}
use Rattle.rp_logic.proofs.sorted.+is_sorted.Given as goal

abbrev pub invariant-are_sorted-loop-f : goal.invariant-are_sorted-loop-f
invariant-are_sorted-loop-f l =
    sort_tests (sig_view l.sig) l.added (scope_view l.scope) (formulas_view l.formulas) ≡ sort_tests (sig_view l.sig) l.added (scope_view l.scope) (formulas_view (drop l.f-index l.formulas))
