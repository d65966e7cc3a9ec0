-- The tests of the first form at lists of parts, as the code makes them.
use Rattle.std.proofs.Common.{◌≡◌, ℕ, ◌&&◌, nat_eq, nat_lt, nat_le, List, [], ◌∷◌, length, ap, ◌∙◌, arith}
use Rattle.rp_lang.specs.declared.expr.Expr.{Expr}
use Rattle.rp_lang.specs.declared.expr.Expr.TheVariants as made
use Rattle.rp_lang.specs.declared.formula.Formula.{Formula}
use Rattle.rp_lang.specs.Exprs.{Con}
use Rattle.rp_lang.specs.FirstForm.{has_two, is_truth}
use Rattle.rp_lang.specs.Views.{expr_view, exprs_view, formulas_view}
use Rattle.rp_lang.proofs.ExprViews.{expr_views, expr_view-Con}

pub has_two-length : (parts : List Formula) → has_two (formulas_view parts) ≡ nat_le 2 (length parts)
has_two-length [] = grind arith
has_two-length (f ∷ []) = grind arith
has_two-length (f ∷ (g ∷ fs)) = grind arith

is_truth-args : (params con : ℕ) (args : List Expr)
    → is_truth params (Con con (exprs_view args)) ≡ nat_lt con 2 && nat_eq (length args) 0
is_truth-args params con [] = grind arith
is_truth-args params con (e ∷ es) = grind arith

pub is_truth-Con : (params con : ℕ) (args : List Expr)
    → is_truth params (expr_view (made.Con con args)) ≡ nat_lt con 2 && nat_eq (length args) 0
is_truth-Con params con args = ap (is_truth params) (expr_view-Con con args) ∙ is_truth-args params con args

pub ruleset first_forms = (has_two-length, is_truth-Con, expr_views)
