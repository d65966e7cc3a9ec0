use Rattle.std.proofs.Common.{◌≡◌, drop, map, ◌++◌}
use Rattle.rp_logic.specs.Views.{formulas_view}
use Rattle.spent_defs.specs.Standing.{terms_of_parts}
use Rattle.spent_tests.specs.Views.{standing_view, with_rank}
use Rattle.spent_tests.proofs.standing.+add_formula_terms.Given as goal

abbrev pub invariant-add_terms_of_each-loop-f : goal.invariant-add_terms_of_each-loop-f
invariant-add_terms_of_each-loop-f l =
    map standing_view l.initial.standing ++ with_rank l.rank (terms_of_parts (formulas_view l.formulas))
    ≡ map standing_view l.standing
    ++ with_rank l.rank (terms_of_parts (formulas_view (drop l.f-index l.formulas)))
