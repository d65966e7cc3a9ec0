use Rattle.std.proofs.Common.{◌≡◌, drop, map, ◌++◌}
use Rattle.std.specs.Prelude.{zip}
use Rattle.rp_logic.specs.Views.{formula_view}
use Rattle.spent_tests.specs.Views.{standing_view, terms_with_ranks}
use Rattle.spent_tests.proofs.branch.list_again.Given as goal

abbrev pub invariant-loop-p : goal.invariant-loop-p
invariant-loop-p l =
    terms_with_ranks (zip (map formula_view l.b.branch.formulas) l.b.ranks)
    ≡ map standing_view l.standing
    ++ terms_with_ranks (zip (map formula_view (drop l.p l.b.branch.formulas)) (drop l.p l.b.ranks))
