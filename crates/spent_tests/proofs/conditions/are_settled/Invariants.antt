use Rattle.std.proofs.Common.{◌≡◌, drop, map}
use Rattle.std.specs.List.{list_all}
use Rattle.rp_logic.specs.Views.{formula_view}
use Rattle.refute_branch.specs.Views.{branch_view}
use Rattle.spent_tests.specs.means.Parts.{is_settled_by}
use Rattle.spent_tests.proofs.conditions.are_settled.Given as goal

abbrev pub invariant-loop-f : goal.invariant-loop-f
invariant-loop-f l =
    list_all (is_settled_by (branch_view l.b)) (map formula_view l.formulas)
    ≡ list_all (is_settled_by (branch_view l.b)) (map formula_view (drop l.f-index l.formulas))
