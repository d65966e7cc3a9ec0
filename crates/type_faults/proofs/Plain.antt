-- Whether lists of expressions and of steps are made of plain terms, one after another.
use Rattle.std.proofs.Common.{◌≡◌, ℕ, ◌+◌, ◌<◌, Bool, true, false, ◌&&◌, List, [], length, drop, get_or, refl, sym, ap, ◌∙◌}
use Rattle.std.proofs.Math.Bool.{and_assoc}
use Rattle.rp_ast.specs.declared.expr.ExprNode.{ExprNode}
use Rattle.rp_ast.specs.declared.expr.AccessStep.{AccessStep}
use Rattle.rp_ast.specs.View.{expr_view, exprs_view, step_view, steps_view}
use Rattle.type_rules.specs.Names.{Names}
use Rattle.type_rules.specs.Accesses.{Var}
use Rattle.type_rules.specs.Typing.{are_plain, are_plain_steps, is_plain, is_plain_step}
use Rattle.type_faults.proofs.Lists.{next_in}

-- with one more, a list goes on as the whole is
pub one_more : (before own next rest left all : Bool) {told : Bool} → (before && left) ≡ all → left ≡ (own && rest) → told ≡ own → next ≡ (before && told)
    → (next && rest) ≡ all
one_more before own next rest left all e split told both =
    ap (λ b. b && rest) (both ∙ ap (λ b. before && b) told) ∙ and_assoc before own rest ∙ ap (λ b. before && b) (sym split) ∙ e

-- at the end nothing is left
pub at_end : (before left all : Bool) → (before && left) ≡ all → left ≡ true → before ≡ all
at_end before left all e none = by before ∙ ap (λ b. before && b) (sym none) ∙ e
  where
    by : (a : Bool) → a ≡ (a && true)
    by true = refl
    by false = refl

pub plain_next : (n : Names) (vs : List Var) (es : List ExprNode) (i : ℕ) (e : ExprNode) (before : Bool) {next told all : Bool} → i < length es → e ≡ get_or es i e
    → (before && are_plain n vs (exprs_view (drop i es))) ≡ all → told ≡ is_plain n vs (expr_view e) → next ≡ (before && told)
    → (next && are_plain n vs (exprs_view (drop (i + 1) es))) ≡ all
plain_next n vs es i e before {next} {told} {all} lt is so own both =
    one_more before (is_plain n vs (expr_view e)) next (are_plain n vs (exprs_view (drop (i + 1) es))) (are_plain n vs (exprs_view (drop i es))) all so
    (next_in (λ l. are_plain n vs (exprs_view l)) es i e lt is) own both

pub plain_ended : (n : Names) (vs : List Var) (es : List ExprNode) (i : ℕ) (before : Bool) {all : Bool} → drop i es ≡ []
    → (before && are_plain n vs (exprs_view (drop i es))) ≡ all → before ≡ all
plain_ended n vs es i before {all} past so =
    at_end before (are_plain n vs (exprs_view (drop i es))) all so (ap (λ l. are_plain n vs (exprs_view l)) past)

pub steps_next : (n : Names) (vs : List Var) (steps : List AccessStep) (i : ℕ) (s : AccessStep) (before : Bool) {next told all : Bool} → i < length steps → s ≡ get_or steps i s
    → (before && are_plain_steps n vs (steps_view (drop i steps))) ≡ all → told ≡ is_plain_step n vs (step_view s) → next ≡ (before && told)
    → (next && are_plain_steps n vs (steps_view (drop (i + 1) steps))) ≡ all
steps_next n vs steps i s before {next} {told} {all} lt is so own both =
    one_more before (is_plain_step n vs (step_view s)) next (are_plain_steps n vs (steps_view (drop (i + 1) steps)))
    (are_plain_steps n vs (steps_view (drop i steps))) all so
    (next_in (λ l. are_plain_steps n vs (steps_view l)) steps i s lt is) own both

pub steps_ended : (n : Names) (vs : List Var) (steps : List AccessStep) (i : ℕ) (before : Bool) {all : Bool} → drop i steps ≡ []
    → (before && are_plain_steps n vs (steps_view (drop i steps))) ≡ all → before ≡ all
steps_ended n vs steps i before {all} past so =
    at_end before (are_plain_steps n vs (steps_view (drop i steps))) all so (ap (λ l. are_plain_steps n vs (steps_view l)) past)
