-- Ranks: through how many instances a formula or a term of a branch came about.
use Rattle.std.specs.Prelude.{ℕ, suc, max, ◌==◌, if◌then◌else◌, List, [], ◌∷◌, ◌++◌, map, get_or, replicate, length, zip, flat_map}
use Rattle.rp_logic.specs.Terms.{Tm, Tms, no_tm, also_tm}
use Rattle.rp_logic.specs.Formulas.{Fm}
use Rattle.refute_defs.specs.Uses.{Use}
use Rattle.refute_defs.specs.Parts.{atom_args}
use Rattle.refute_defs.specs.Additions.{Addition}
use Rattle.refute_defs.specs.Branches as branches
use Rattle.refute_defs.specs.Branches.{Branch}
use Rattle.spent_defs.specs.Standing.{terms_of, is_among}

pub record Ranked : Type 0 where
  pub branch : Branch
  -- the rank of each formula
  pub ranks : List ℕ

-- the formulas, each with its rank
abbrev pub ranked : Ranked → List (Fm × ℕ)
ranked b = zip b.branch.formulas b.ranks

-- the rank of the first of these formulas in which the term stands, and 0 where it stands in none
abbrev pub first_rank : Tm → List (Fm × ℕ) → ℕ
first_rank t [] = 0
first_rank t (x ∷ xs) = if is_among (terms_of x.0) t then x.1 else first_rank t xs

abbrev pub term_rank : Ranked → Tm → ℕ
term_rank b t = first_rank t (ranked b)

abbrev pub rank_at : Ranked → ℕ → ℕ
rank_at b p = get_or b.ranks p 0

abbrev pub terms_list : Tms → List Tm
terms_list no_tm = []
terms_list (also_tm t ts) = t ∷ terms_list ts

-- the terms that a node names, the sides or arguments of its atoms among them
abbrev pub named_terms : Use → List Tm
named_terms u = u.terms ++ flat_map (λ a. terms_list (atom_args a)) u.atoms

abbrev pub greatest : List ℕ → ℕ
greatest [] = 0
greatest (n ∷ ns) = max n (greatest ns)

-- the greatest rank of the formulas and terms that the node names
abbrev pub named_rank : Ranked → Use → ℕ
named_rank b u = greatest (map (rank_at b) u.places ++ map (term_rank b) (named_terms u))

-- the rank of an instance is one more than that of its universal and its term
abbrev pub instance_rank : ℕ → ℕ → ℕ
instance_rank r q = suc (max r q)

-- the rank of what a node adds
abbrev pub rank_of : Ranked → Use → ℕ
rank_of b u = if u.rule == 3 then suc (named_rank b u) else named_rank b u

-- the given formulas have rank 0
abbrev pub root : List Fm → Ranked
root given = record { branch = branches.root given; ranks = replicate (length given) 0 }

abbrev pub extend : Ranked → ℕ → Addition → Ranked
extend b r addition =
    record { branch = branches.extend b.branch addition; ranks = b.ranks ++ r ∷ [] }
