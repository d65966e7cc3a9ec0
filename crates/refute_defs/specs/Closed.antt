-- Closed trees.
use Rattle.std.specs.Prelude.{◌≡◌, ◌⊎◌, IsTrue, ℕ, suc, List, [], ◌∷◌, ◌++◌}
use Rattle.rp_logic.specs.Formulas.{Fm}
use Rattle.rp_logic.specs.Signatures.{Signature, is_signature}
use Rattle.rp_logic.specs.Sorted.{IsWellSorted}
use Rattle.refute_defs.specs.Uses.{Nd, Rule, Unvisited, Current}
use Rattle.refute_defs.specs.Additions.{Addition}
use Rattle.refute_defs.specs.Branches.{Branch, root, extend_each}
use Rattle.refute_defs.specs.Rules.{Step}

-- The nodes, in preorder, are those of one tree for each branch. Every node meets its rule, and so
-- a leaf closes its branch.
abbrev pub AreClosed : Signature → List Branch → List Nd → Type 0
AreClosed S [] [] = Unit {0}
AreClosed S [] (node ∷ nodes) = ⊥
AreClosed S (b ∷ bs) [] = ⊥
AreClosed S (b ∷ bs) (Rule u ∷ nodes) =
    (adds : List Addition) × Step S b u adds × AreClosed S (extend_each b adds ++ bs) nodes
AreClosed S (b ∷ bs) (Unvisited ∷ nodes) = ⊥
AreClosed S (b ∷ bs) (Current ∷ nodes) = ⊥

-- a closed tree of the given formulas
abbrev pub IsClosedTree : Signature → List Fm → List Nd → Type 0
IsClosedTree S given nodes = AreClosed S (root given ∷ []) nodes

-- Node k, of rule q, is the first in preorder that doesn't meet its rule, of the nodes from number
-- n on and these branches that are open before them. For 0 stands no rule: a leaf of a search, a
-- node that is missing, which is numbered by how many there are, and a node too many.
abbrev pub FirstBadFrom : Signature → ℕ → List Branch → List Nd → ℕ → ℕ → Type 0
FirstBadFrom S n [] [] k q = ⊥
FirstBadFrom S n [] (node ∷ nodes) k q = (k ≡ n) × (q ≡ 0)
FirstBadFrom S n (b ∷ bs) [] k q = (k ≡ n) × (q ≡ 0)
FirstBadFrom S n (b ∷ bs) (Rule u ∷ nodes) k q =
    (((adds : List Addition) → ¬ Step S b u adds) × (k ≡ n) × (q ≡ u.rule))
    ⊎ ((adds : List Addition) × Step S b u adds
    × FirstBadFrom S (suc n) (extend_each b adds ++ bs) nodes k q)
FirstBadFrom S n (b ∷ bs) (Unvisited ∷ nodes) k q = (k ≡ n) × (q ≡ 0)
FirstBadFrom S n (b ∷ bs) (Current ∷ nodes) k q = (k ≡ n) × (q ≡ 0)

abbrev pub IsFirstBad : Signature → List Fm → List Nd → ℕ → ℕ → Type 0
IsFirstBad S given nodes k q = FirstBadFrom S 0 (root given ∷ []) nodes k q

-- each of the given formulas is a closed one over the signature
abbrev pub AreWellSorted : Signature → List Fm → Type 0
AreWellSorted S [] = Unit {0}
AreWellSorted S (f ∷ fs) = IsWellSorted S f × AreWellSorted S fs

-- the signature keeps what one of the code keeps
abbrev pub IsSignature : Signature → Type 0
IsSignature S = IsTrue (is_signature S.sorts S.consts S.fns S.rels S.cons)
