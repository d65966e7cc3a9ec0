use Rattle.std.proofs.Common.{◌≡◌, drop, map}
use Rattle.std.specs.Prelude.{zip}
use Rattle.std.specs.List.{list_all}
use Rattle.rp_logic.specs.SigView.{sig_view}
use Rattle.rp_logic.specs.Views.{formula_view}
use Rattle.spent_defs.specs.Conditions.{has_all_plain_instances}
use Rattle.spent_tests.specs.Views.{ranked_view}
use Rattle.spent_tests.specs.means.Parts.{has_plain_to}
use Rattle.spent_tests.proofs.due.has_all_plain_instances.Given as goal

abbrev pub invariant-loop-p : goal.invariant-loop-p
invariant-loop-p l =
    has_all_plain_instances (sig_view l.sig) (ranked_view l.b) l.n
    ≡ list_all (has_plain_to (sig_view l.sig) (ranked_view l.b) l.n)
    (zip (map formula_view (drop l.p l.b.branch.formulas)) (drop l.p l.b.ranks))
