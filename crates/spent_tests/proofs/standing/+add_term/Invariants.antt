use Rattle.std.proofs.Common.{◌≡◌, drop, map, ◌++◌}
use Rattle.rp_logic.specs.Views.{terms_view}
use Rattle.spent_defs.specs.Standing.{terms_of_each}
use Rattle.spent_tests.specs.Views.{standing_view, with_rank}
use Rattle.spent_tests.proofs.standing.+add_term.Given as goal

abbrev pub invariant-add_terms-loop-t : goal.invariant-add_terms-loop-t
invariant-add_terms-loop-t l =
    map standing_view l.initial.standing ++ with_rank l.rank (terms_of_each (terms_view l.terms))
    ≡ map standing_view l.standing
    ++ with_rank l.rank (terms_of_each (terms_view (drop l.t-index l.terms)))
