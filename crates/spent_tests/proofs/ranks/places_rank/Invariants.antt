use Rattle.std.proofs.Common.{◌≡◌, drop}
use Rattle.std.specs.Prelude.{max}
use Rattle.spent_tests.specs.Views.{ranked_view}
use Rattle.spent_tests.specs.means.NamedRanks.{rank_of_places}
use Rattle.spent_tests.proofs.ranks.places_rank.Given as goal

abbrev pub invariant-loop-p : goal.invariant-loop-p
invariant-loop-p l =
    rank_of_places (ranked_view l.b) l.places
    ≡ max l.most (rank_of_places (ranked_view l.b) (drop l.p-index l.places))
