use Rattle.std.proofs.Common.{◌≡◌, drop}
use Rattle.rp_logic.specs.Views.{terms_view}
use Rattle.rp_logic.specs.Terms.{are_closed}
use Rattle.spent_tests.proofs.standing.+is_closed.Given as goal

abbrev pub invariant-are_closed-loop-t : goal.invariant-are_closed-loop-t
invariant-are_closed-loop-t l =
    are_closed (terms_view l.terms)
    ≡ are_closed (terms_view (drop l.t-index l.terms))
