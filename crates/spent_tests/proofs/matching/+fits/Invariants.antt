use Rattle.std.proofs.Common.{◌≡◌, drop, length}
use Rattle.rp_logic.specs.Views.{term_view, terms_view}
use Rattle.rp_logic.specs.Scopes.{scope_view}
use Rattle.refute_defs.specs.Same.{same_tm}
use Rattle.spent_defs.specs.Matching.{all_fit}
use Rattle.spent_tests.proofs.matching.+fits.Given as goal

abbrev pub invariant-all_fit-loop-i : goal.invariant-all_fit-loop-i
invariant-all_fit-loop-i l =
    all_fit same_tm (term_view l.t) (length (scope_view l.inner)) (terms_view l.ss) (terms_view l.us)
    ≡ all_fit same_tm (term_view l.t) (length (scope_view l.inner)) (terms_view (drop l.i l.ss))
    (terms_view (drop l.i l.us))
