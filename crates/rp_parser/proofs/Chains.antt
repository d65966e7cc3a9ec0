-- Chains of operands, and the end of a quantifier's body.
use Rattle.std.proofs.Common.{◌≡◌, false, List, [], ◌∷◌, ◌++◌, None, map, refl, ap, sym, ◌∙◌}
use Rattle.rp_span.specs.declared.Span.{Span}
use Rattle.rp_grammar.specs.declared.terminal.Symbol.TheVariants as symbol
use Rattle.rp_grammar.specs.Terminals.{Terminal, symbol, Tok, at}
use Rattle.rp_grammar.specs.Trees.{ExprTree, ExprForm, exprs}
use Rattle.rp_grammar.specs.Parts.{Part, part, tree_of, extent_of, trees_of, reach, join}
use Rattle.rp_grammar.specs.Exprs.{goes_on, and_tree, or_tree, and_part, or_part}
use Rattle.rp_ast.specs.declared.expr.ExprNode.{ExprNode}
use Rattle.rp_ast.specs.View.{expr_view, exprs_view}
use Rattle.rp_tokens.specs.MachineStates.{is_symbol, State, stopping}
use Rattle.rp_tokens.specs.Machine.{step, bounded}
use Rattle.rp_parser.specs.means.Marks.{next_is}
use Rattle.rp_parser.proofs.Lists.{map_pushed}
use Rattle.rp_parser.proofs.Steps.{alike, cond_false}

no_going_on : (x : Terminal) → is_symbol symbol.And x ≡ false → is_symbol symbol.Or x ≡ false → is_symbol symbol.Implies x ≡ false → goes_on x ≡ false
no_going_on (symbol symbol.And) a o i = cc
no_going_on (symbol symbol.Or) a o i = cc
no_going_on (symbol symbol.Implies) a o i = cc
no_going_on (symbol _) a o i = refl
no_going_on _ a o i = refl

-- behind a quantifier's body no token comes that would go on with it
pub stops : (s : State) (ts : List Tok) → next_is symbol.And ts ≡ false → next_is symbol.Or ts ≡ false → next_is symbol.Implies ts ≡ false → bounded 64 (stopping s) ts ≡ bounded 64 s ts
stops s [] a o i = refl
stops s (at x v ∷ ts) a o i = alike (stopping s) s x v ts (cond_false (step s x v) None (goes_on x) (no_going_on x a o i))

trees_last : (es : List (Part ExprTree)) (f : Part ExprTree) → trees_of (es ++ f ∷ []) ≡ trees_of es ++ tree_of f ∷ []
trees_last [] f = refl
trees_last (e ∷ es) f = ap (λ xs. tree_of e ∷ xs) (trees_last es f)

pub reach_last : (s : Span) (es : List (Part ExprTree)) (f : Part ExprTree) → reach s (es ++ f ∷ []) ≡ join (reach s es) (extent_of f)
reach_last s [] f = refl
reach_last s (e ∷ es) f = reach_last (join s (extent_of e)) es f

-- one more member
pub chain_pushed : (all ns : List ExprNode) (n : ExprNode) (e : ExprTree) (es : List (Part ExprTree)) (f : Part ExprTree) → all ≡ ns ++ n ∷ [] → map expr_view ns ≡ e ∷ trees_of es → tree_of f ≡ expr_view n → map expr_view all ≡ e ∷ trees_of (es ++ f ∷ [])
chain_pushed all ns n e es f h seen is =
    sym (map_pushed expr_view all ns n h)
    ∙ ap (λ xs. xs ++ expr_view n ∷ []) seen
    ∙ ap (λ x. e ∷ (trees_of es ++ x ∷ [])) (sym is)
    ∙ ap (λ xs. e ∷ xs) (sym (trees_last es f))

and_longer : (s : Span) (e : ExprTree) (es : List (Part ExprTree)) (f : Part ExprTree) → ExprTree.node s (ExprForm.and (exprs (e ∷ trees_of (es ++ f ∷ [])))) ≡ and_tree s (e ∷ trees_of (es ++ f ∷ []))
and_longer s e [] f = refl
and_longer s e (g ∷ es) f = refl

or_longer : (s : Span) (e : ExprTree) (es : List (Part ExprTree)) (f : Part ExprTree) → ExprTree.node s (ExprForm.or (exprs (e ∷ trees_of (es ++ f ∷ [])))) ≡ or_tree s (e ∷ trees_of (es ++ f ∷ []))
or_longer s e [] f = refl
or_longer s e (g ∷ es) f = refl

-- the node of a chain of two or more
pub and_node : (e : Part ExprTree) (es : List (Part ExprTree)) (f : Part ExprTree) (ns : List ExprNode) (v : Span) (x : ExprTree) → reach (extent_of e) (es ++ f ∷ []) ≡ v → map expr_view ns ≡ tree_of e ∷ trees_of (es ++ f ∷ []) → x ≡ ExprTree.node v (ExprForm.and (exprs_view ns)) → and_part e (es ++ f ∷ []) ≡ part x v
and_node e es f ns v x far seen is =
    ap (λ s. part (and_tree s (tree_of e ∷ trees_of (es ++ f ∷ []))) s) far
    ∙ ap (λ t. part t v) (sym (and_longer v (tree_of e) es f) ∙ ap (λ xs. ExprTree.node v (ExprForm.and (exprs xs))) (sym seen) ∙ sym is)

pub or_node : (e : Part ExprTree) (es : List (Part ExprTree)) (f : Part ExprTree) (ns : List ExprNode) (v : Span) (x : ExprTree) → reach (extent_of e) (es ++ f ∷ []) ≡ v → map expr_view ns ≡ tree_of e ∷ trees_of (es ++ f ∷ []) → x ≡ ExprTree.node v (ExprForm.or (exprs_view ns)) → or_part e (es ++ f ∷ []) ≡ part x v
or_node e es f ns v x far seen is =
    ap (λ s. part (or_tree s (tree_of e ∷ trees_of (es ++ f ∷ []))) s) far
    ∙ ap (λ t. part t v) (sym (or_longer v (tree_of e) es f) ∙ ap (λ xs. ExprTree.node v (ExprForm.or (exprs xs))) (sym seen) ∙ sym is)
