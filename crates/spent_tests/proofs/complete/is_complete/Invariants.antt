use Rattle.std.proofs.Common.{◌≡◌, drop, map}
use Rattle.std.specs.Prelude.{zip}
use Rattle.std.specs.List.{list_all}
use Rattle.rp_logic.specs.SigView.{sig_view}
use Rattle.rp_logic.specs.Views.{formula_view}
use Rattle.spent_defs.specs.Complete.{is_complete}
use Rattle.spent_tests.specs.Views.{ranked_view}
use Rattle.spent_tests.specs.means.Parts.{is_met_to}
use Rattle.spent_tests.proofs.complete.is_complete.Given as goal

abbrev pub invariant-loop-p : goal.invariant-loop-p
invariant-loop-p l =
    is_complete (sig_view l.sig) (ranked_view l.b) l.n
    ≡ list_all (is_met_to (sig_view l.sig) (ranked_view l.b) l.n)
    (zip (map formula_view (drop l.p l.b.branch.formulas)) (drop l.p l.b.ranks))
