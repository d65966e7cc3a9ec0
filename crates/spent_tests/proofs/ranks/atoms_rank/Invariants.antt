use Rattle.std.proofs.Common.{◌≡◌, drop, map}
use Rattle.std.specs.Prelude.{max}
use Rattle.rp_logic.specs.Views.{atom_view}
use Rattle.spent_tests.specs.Views.{ranked_view}
use Rattle.spent_tests.specs.means.NamedRanks.{rank_of_atoms}
use Rattle.spent_tests.proofs.ranks.atoms_rank.Given as goal

abbrev pub invariant-loop-atom : goal.invariant-loop-atom
invariant-loop-atom l =
    rank_of_atoms (ranked_view l.b) (map atom_view l.atoms)
    ≡ max l.most (rank_of_atoms (ranked_view l.b) (map atom_view (drop l.atom-index l.atoms)))
