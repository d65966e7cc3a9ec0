use Rattle.std.proofs.Common.{◌≡◌, drop, map}
use Rattle.rp_logic.specs.Views.{term_view}
use Rattle.spent_tests.specs.Views.{standing_view}
use Rattle.spent_tests.specs.means.Among.{rank_among}
use Rattle.spent_tests.proofs.on.first_rank.Given as goal

abbrev pub invariant-loop-s : goal.invariant-loop-s
invariant-loop-s l =
    rank_among (term_view l.t) (map standing_view l.standing)
    ≡ rank_among (term_view l.t) (map standing_view (drop l.s-index l.standing))
