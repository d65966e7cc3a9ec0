-- A branch with its ranks and the terms that stand on it, as definitions speak of it.
use Rattle.std.specs.Prelude.{◌≡◌, ℕ, List, map, flat_map, length}
use Rattle.rp_logic.specs.Terms.{Tm}
use Rattle.rp_logic.specs.Formulas.{Fm}
use Rattle.rp_logic.specs.Views.{term_view}
use Rattle.refute_branch.specs.Views.{branch_view}
use Rattle.spent_defs.specs.Standing.{terms_of}
use Rattle.spent_defs.specs.Ranks.{Ranked, ranked}
use Rattle.spent_tests.specs.declared.standing.Standing.{Standing}
use Rattle.spent_tests.specs.declared.branch.RankedBranch.{RankedBranch}

abbrev pub ranked_view : RankedBranch → Ranked
ranked_view b = record { branch = branch_view b.branch; ranks = b.ranks }

-- # The terms that stand there

abbrev pub standing_view : Standing → Tm × ℕ
standing_view s = (term_view s.term, s.rank)

-- the terms alone
abbrev pub only_terms : List Standing → List Tm
only_terms standing = map (λ s. term_view s.term) standing

abbrev pub with_rank : ℕ → List Tm → List (Tm × ℕ)
with_rank r ts = map (λ t. (t, r)) ts

-- the closed terms of each formula, with its rank
abbrev pub terms_with_ranks : List (Fm × ℕ) → List (Tm × ℕ)
terms_with_ranks fs = flat_map (λ x. with_rank x.1 (terms_of x.0)) fs

-- Each formula has a rank, and what is listed are the terms that stand there.
pub record IsListed (b : RankedBranch) : Type 0 where
  pub ranks : length b.ranks ≡ length b.branch.formulas
  pub standing : map standing_view b.standing ≡ terms_with_ranks (ranked (ranked_view b))
