-- What phrases spell, and where they stand.
use Rattle.std.specs.Prelude.{List, [], ◌∷◌}
use Rattle.rp_span.specs.declared.Span.{Span}
use Rattle.rp_grammar.specs.Trees.{ExprTree, ExprForm}

-- from the start of a to the end of b
abbrev pub join : Span → Span → Span
join a b = record { from = a.from; to = b.to }

-- a tree and the extent of its phrase, from its first token to the end of its last. Parentheses around an expression belong to the extent, and not to the tree's own span
pub data Part (X : Type 0) : Type 0 where
  part : X → Span → Part X

abbrev pub tree_of : {X : Type 0} → Part X → X
tree_of (part x s) = x

abbrev pub extent_of : {X : Type 0} → Part X → Span
extent_of (part x s) = s

abbrev pub trees_of : {X : Type 0} → List (Part X) → List X
trees_of [] = []
trees_of (x ∷ xs) = tree_of x ∷ trees_of xs

-- from the start of s to the end of the last part
abbrev pub reach : {X : Type 0} → Span → List (Part X) → Span
reach s [] = s
reach s (x ∷ xs) = reach (join s (extent_of x)) xs

-- an expression whose phrase is not in parentheses: its own span is the phrase's extent
abbrev pub built : Span → ExprForm → Part ExprTree
built s f = part (ExprTree.node s f) s

abbrev pub in_parens : Span → Span → Part ExprTree → Part ExprTree
in_parens s t e = part (tree_of e) (join s t)
