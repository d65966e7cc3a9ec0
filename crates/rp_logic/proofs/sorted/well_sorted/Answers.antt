use Rattle.std.proofs.Common.{[], ◌∙◌, ap}
use Rattle.rp_logic.specs.SigView.{sig_view}
use Rattle.rp_logic.specs.means.FormulaTests.{sort_test}
use Rattle.rp_logic.specs.Views.{formula_view}
use Rattle.rp_logic.proofs.ScopeViews.{scope_view-Closed}
use Rattle.rp_logic.proofs.SortLaws.{well_sorted_exact}
use Rattle.rp_logic.proofs.sorted.well_sorted.Goals as goal

pub returns : goal.returns
returns c =
    well_sorted_exact c.args.sig.now c.is_sorted.result (formula_view c.args.f.now)
    (c.is_sorted.ensures ∙ ap (λ scope. sort_test (sig_view c.args.sig.now) [] scope (formula_view c.args.f.now)) scope_view-Closed)
