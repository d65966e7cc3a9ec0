-- Where the machine stands behind the first token of an operand: at the nesting d, the token at s, and k behind the operand.
use Rattle.std.specs.Prelude.{ℕ, suc, ◌<◌, ◌≤◌, pos, neg_ℤ, []}
use Rattle.rp_span.specs.declared.Span.{Span}
use Rattle.rp_grammar.specs.Trees.{ident, ExprTree, ExprForm}
use Rattle.rp_grammar.specs.Parts.{Part, join, tree_of, built, in_parens}
use Rattle.rp_grammar.specs.Exprs.{Quantifier, forall, exists, not_part}
use Rattle.rp_tokens.specs.MachineStates.{State, want_int, want_operand, more_cmp, in_access}
use Rattle.rp_tokens.specs.MachineExprs.{want_parens, want_closed, want_call, want_match, want_quant, want_sum, access_part}
use Rattle.rp_parser.specs.declared.expr_starts.Leaf.{Leaf}
use Rattle.rp_parser.specs.declared.expr_starts.Leaf.TheVariants as leaf
use Rattle.rp_parser.specs.declared.expr_starts.PrimStart.{PrimStart}
use Rattle.rp_parser.specs.declared.expr_starts.PrimStart.TheVariants as prim
use Rattle.rp_parser.specs.declared.expr_starts.QuantifierKind.{QuantifierKind}
use Rattle.rp_parser.specs.declared.expr_starts.QuantifierKind.TheVariants as kind
use Rattle.rp_parser.specs.declared.expr_starts.OperandStart.{OperandStart}
use Rattle.rp_parser.specs.declared.expr_starts.OperandStart.TheVariants as operand
use Rattle.rp_parser.specs.means.Marks.{meant}

abbrev pub leaf_form : Leaf → ExprForm
leaf_form (leaf.Number i) = ExprForm.int (pos i)
leaf_form (leaf.Text inside) = ExprForm.str (meant inside.now)
leaf_form (leaf.Truth b) = ExprForm.truth b
leaf_form leaf.NoneWord = ExprForm.none_word
leaf_form leaf.Unreturned = ExprForm.unreturned
leaf_form leaf.Tx = ExprForm.tx

abbrev pub prim_next : ℕ → (Part ExprTree → State) → Span → PrimStart → State
prim_next d k s (prim.Leaf l) = k (built s (leaf_form l))
prim_next d k s prim.Minus = want_int d (λ i t. k (built (join s t) (ExprForm.int (neg_ℤ (pos i)))))
prim_next d k s prim.Some = want_parens d (λ e c. k (built (join s c) (ExprForm.some_of (tree_of e))))
prim_next d k s (prim.Call w) = want_call d w s k
prim_next d k s prim.Match = want_match d s k
prim_next d k s (prim.Name bytes) = in_access d (ident bytes.now s) [] s (λ a. k (access_part a))
prim_next d k s prim.Paren = want_closed d (λ e c. k (in_parens s c e))

abbrev pub quantifier_of : QuantifierKind → Quantifier
quantifier_of kind.Forall = forall
quantifier_of kind.Exists = exists

-- cmp
abbrev pub want_comparison : ℕ → (Part ExprTree → State) → State
want_comparison d k = want_sum d (λ a. more_cmp d a k)

abbrev pub operand_next : ℕ → (Part ExprTree → State) → OperandStart → State
operand_next d k (operand.Not s) = want_operand (suc d) (λ e. k (not_part s e))
operand_next d k (operand.Quantifier q s) = want_quant (quantifier_of q) d s k
operand_next d k operand.Comparison = want_comparison d k

-- where a token is read of m, so that n are left, it isn't nested too deep
abbrev pub IsWithin : ℕ → ℕ → ℕ → OperandStart → Type 0
IsWithin d m n (operand.Not s) = (d ≤ 64) × (n < m)
IsWithin d m n (operand.Quantifier q s) = (d ≤ 64) × (n < m)
IsWithin d m n operand.Comparison = Unit {0}
