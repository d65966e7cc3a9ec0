-- Where the machine stands behind a token between the parts of an expression.
use Rattle.std.specs.Prelude.{ℕ, suc, List}
use Rattle.rp_span.specs.declared.Span.{Span}
use Rattle.rp_grammar.specs.Trees.{Ident, TypeTree, ExprTree, ExprForm, StepTree, AccessTree}
use Rattle.rp_grammar.specs.Parts.{Part}
use Rattle.rp_grammar.specs.Exprs.{Quantifier, quantifier_part}
use Rattle.rp_tokens.specs.MachineStates.{State, ident_span, want_name}
use Rattle.rp_tokens.specs.MachineExprs.{want_expr, want_bound, want_step, want_key}
use Rattle.rp_parser.specs.declared.signs.SumSign.{SumSign}
use Rattle.rp_parser.specs.declared.signs.SumSign.TheVariants as sum
use Rattle.rp_parser.specs.declared.signs.BoundSign.{BoundSign}
use Rattle.rp_parser.specs.declared.signs.BoundSign.TheVariants as bound
use Rattle.rp_parser.specs.declared.signs.StepSign.{StepSign}
use Rattle.rp_parser.specs.declared.signs.StepSign.TheVariants as step

abbrev pub sum_form : SumSign → ExprTree → ExprTree → ExprForm
sum_form sum.Plus = ExprForm.plus
sum_form sum.Minus = ExprForm.minus

abbrev pub bound_next : Quantifier → ℕ → Span → Ident → TypeTree → (Part ExprTree → State) → BoundSign → State
bound_next q d v n t k bound.Body = want_expr d (λ e. k (quantifier_part q v n t e))
bound_next q d v n t k bound.Variable = want_name d (λ m. want_bound q (suc d) (ident_span m) m (λ e. k (quantifier_part q v n t e)))

abbrev pub step_next : ℕ → Ident → List StepTree → Span → (Part AccessTree → State) → StepSign → State
step_next d n xs v k step.Dot = want_step d n xs v k
step_next d n xs v k step.Key = want_key d n xs v k
