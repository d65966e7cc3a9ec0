-- The nodes of a tree in preorder, each with the branch at which it stands.
use Rattle.std.specs.Prelude.{ℕ, suc, List, [], ◌∷◌, ◌++◌, map, Some, None}
use Rattle.rp_logic.specs.Formulas.{Fm}
use Rattle.rp_logic.specs.Signatures.{Signature}
use Rattle.refute_defs.specs.Uses.{Use, Nd, Rule, Unvisited, Current}
use Rattle.refute_defs.specs.Additions.{Addition}
use Rattle.refute_defs.specs.Children.{children}
use Rattle.spent_defs.specs.Ranks.{Ranked, rank_of, root, extend}

pub data Tour : Type 0 where
  -- no node and no open branch is left
  Whole : Tour
  -- this node doesn't meet its rule
  Broken : (node rule : ℕ) → Tour
  -- a node that meets its rule at this branch and adds this, and the nodes behind it
  Visit : (node : ℕ) (b : Ranked) (u : Use) (adds : List Addition) (rest : Tour) → Tour
  -- leaves of a search
  SkipUnvisited : (rest : Tour) → Tour
  AtCurrent : (node : ℕ) (rest : Tour) → Tour

-- the branches of a node's children
abbrev pub extend_each : Ranked → ℕ → List Addition → List Ranked
extend_each b r adds = map (extend b r) adds

-- The nodes from number n on, where these branches are open, the next one first. A missing node has
-- the number of nodes, a missing one and one too many the rule 0.
abbrev pub tour_from : Signature → ℕ → List Ranked → List Nd → Tour
tour_from S n [] [] = Whole
tour_from S n [] (node ∷ nodes) = Broken n 0
tour_from S n (b ∷ bs) [] = Broken n 0
tour_from S n (b ∷ bs) (Rule u ∷ nodes) =
    elim (children S b.branch u) [
      | None ↦ Broken n u.rule
      | Some adds ↦ Visit n b u adds
          (tour_from S (suc n) (extend_each b (rank_of b u) adds ++ bs) nodes)
    ]
tour_from S n (b ∷ bs) (Unvisited ∷ nodes) = SkipUnvisited (tour_from S (suc n) bs nodes)
tour_from S n (b ∷ bs) (Current ∷ nodes) = AtCurrent n (tour_from S (suc n) bs nodes)

abbrev pub tour : Signature → List Fm → List Nd → Tour
tour S given nodes = tour_from S 0 (root given ∷ []) nodes
