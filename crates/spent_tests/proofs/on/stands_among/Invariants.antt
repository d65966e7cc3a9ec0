use Rattle.std.proofs.Common.{◌≡◌, drop}
use Rattle.rp_logic.specs.Views.{term_view}
use Rattle.spent_defs.specs.Standing.{is_among}
use Rattle.spent_tests.specs.Views.{only_terms}
use Rattle.spent_tests.proofs.on.stands_among.Given as goal

abbrev pub invariant-loop-s : goal.invariant-loop-s
invariant-loop-s l =
    is_among (only_terms l.standing) (term_view l.t)
    ≡ is_among (only_terms (drop l.s-index l.standing)) (term_view l.t)
