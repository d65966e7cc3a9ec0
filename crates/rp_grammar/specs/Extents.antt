-- Where phrases stand: a phrase's extent goes from its first token to the end of its last.
use Rattle.std.specs.Prelude.{ℕ, suc, List, [], ◌∷◌, ◌++◌, ◌≡◌}
use Rattle.rp_span.specs.declared.Span.{Span}
use Rattle.rp_grammar.specs.declared.terminal.Symbol.TheVariants as symbol
use Rattle.rp_grammar.specs.Terminals.{symbol, Placed, on}
use Rattle.rp_grammar.specs.Trees.{TypeTree, CrdtTree, ExprTree, DeclTree}
use Rattle.rp_grammar.specs.Parts.{join, Part, tree_of}
use Rattle.rp_grammar.specs.Exprs.{Expr}

abbrev pub type_span : TypeTree → Span
type_span (TypeTree.node s f) = s

abbrev pub crdt_span : CrdtTree → Span
crdt_span (CrdtTree.node s f) = s

abbrev pub expr_span : ExprTree → Span
expr_span (ExprTree.node s f) = s

abbrev pub decl_span : DeclTree → Span
decl_span (DeclTree.node s f) = s

abbrev pub span_at : Placed → Span
span_at (on k s d) = s

abbrev pub last_at : Placed → List Placed → Span
last_at m [] = span_at m
last_at m (n ∷ ms) = last_at n ms

-- the tokens of ts that stand before r are one at least, and s goes from the first of them to the end of the last
abbrev pub Covers : List Placed → List Placed → Span → Type 0
Covers ts r s = (m : Placed) × (ms : List Placed) × (ts ≡ m ∷ ms ++ r) × (s ≡ join (span_at m) (last_at m ms))

-- the phrase is one of the same tree in parentheses
abbrev pub InParens : ℕ → List Placed → List Placed → Part ExprTree → Type 0
InParens d ts r e = (s t : Span) × (us : List Placed) × (f : Part ExprTree) × (ts ≡ on (symbol symbol.OpenParen) s d ∷ us)
    × Expr (suc d) us f (on (symbol symbol.CloseParen) t d ∷ r) × (tree_of e ≡ tree_of f)
