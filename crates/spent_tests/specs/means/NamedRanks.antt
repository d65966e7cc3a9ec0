-- The greatest rank of what a node names, part by part.
use Rattle.std.specs.Prelude.{ℕ, max, List, [], ◌∷◌}
use Rattle.rp_logic.specs.Terms.{Tms, no_tm, also_tm, At}
use Rattle.refute_defs.specs.Parts.{atom_args}
use Rattle.spent_defs.specs.Ranks.{Ranked, rank_at, term_rank}

abbrev pub rank_of_places : Ranked → List ℕ → ℕ
rank_of_places b [] = 0
rank_of_places b (p ∷ ps) = max (rank_at b p) (rank_of_places b ps)

abbrev pub rank_of_terms : Ranked → Tms → ℕ
rank_of_terms b no_tm = 0
rank_of_terms b (also_tm t ts) = max (term_rank b t) (rank_of_terms b ts)

abbrev pub rank_of_atom : Ranked → At → ℕ
rank_of_atom b a = rank_of_terms b (atom_args a)

abbrev pub rank_of_atoms : Ranked → List At → ℕ
rank_of_atoms b [] = 0
rank_of_atoms b (a ∷ ats) = max (rank_of_atom b a) (rank_of_atoms b ats)
