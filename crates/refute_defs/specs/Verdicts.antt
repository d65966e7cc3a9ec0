-- What a checker says of a tree.
use Rattle.std.specs.Prelude.{ℕ, suc, List, [], ◌∷◌, ◌++◌, Some, None}
use Rattle.rp_logic.specs.Formulas.{Fm}
use Rattle.rp_logic.specs.Signatures.{Signature}
use Rattle.refute_defs.specs.Uses.{Nd, Rule, Unvisited, Current}
use Rattle.refute_defs.specs.Branches.{Branch, root, extend_each}
use Rattle.refute_defs.specs.Children.{children}

pub data Verdict : Type 0 where
  -- a closed tree
  Accepted : Verdict
  -- The first node, in preorder, that doesn't meet its rule. The rule is 0 for a leaf of a search,
  -- for a node that is missing, which is numbered by how many there are, and for a node too many.
  Bad : (node rule : ℕ) → Verdict

-- The nodes are those from number n on, and the branches those that are open before it, the next
-- one first.
abbrev pub verdict_from : Signature → ℕ → List Branch → List Nd → Verdict
verdict_from S n [] [] = Accepted
verdict_from S n [] (node ∷ nodes) = Bad n 0
verdict_from S n (b ∷ bs) [] = Bad n 0
verdict_from S n (b ∷ bs) (Rule u ∷ nodes) =
    elim (children S b u) [
      | None ↦ Bad n u.rule
      | Some adds ↦ verdict_from S (suc n) (extend_each b adds ++ bs) nodes
    ]
verdict_from S n (b ∷ bs) (Unvisited ∷ nodes) = Bad n 0
verdict_from S n (b ∷ bs) (Current ∷ nodes) = Bad n 0

abbrev pub verdict : Signature → List Fm → List Nd → Verdict
verdict S given nodes = verdict_from S 0 (root given ∷ []) nodes
