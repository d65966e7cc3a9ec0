-- Ranks among terms that are listed with them.
use Rattle.std.specs.Prelude.{ℕ, if◌then◌else◌, List, [], ◌∷◌}
use Rattle.rp_logic.specs.Terms.{Tm}
use Rattle.refute_defs.specs.Same.{same_tm}

-- the rank with which the term is listed first, and 0 where it isn't listed
abbrev pub rank_among : Tm → List (Tm × ℕ) → ℕ
rank_among t [] = 0
rank_among t (x ∷ xs) = if same_tm t x.0 then x.1 else rank_among t xs
