use Rattle.std.proofs.Common.{◌≡◌, drop}
use Rattle.std.specs.Prelude.{max}
use Rattle.rp_logic.specs.Views.{terms_view}
use Rattle.spent_tests.specs.Views.{ranked_view}
use Rattle.spent_tests.specs.means.NamedRanks.{rank_of_terms}
use Rattle.spent_tests.proofs.ranks.terms_rank.Given as goal

abbrev pub invariant-loop-t : goal.invariant-loop-t
invariant-loop-t l =
    rank_of_terms (ranked_view l.b) (terms_view l.terms)
    ≡ max l.most (rank_of_terms (ranked_view l.b) (terms_view (drop l.t-index l.terms)))
