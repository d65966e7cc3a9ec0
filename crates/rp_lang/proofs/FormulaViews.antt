-- What each variant of a formula is seen as.
use Rattle.std.proofs.Common.{◌≡◌, List, ap, sym, ◌∙◌}
use Rattle.rp_value.specs.declared.tables.Ty.{Ty}
use Rattle.rp_lang.specs.declared.expr.Expr.{Expr}
use Rattle.rp_lang.specs.declared.formula.Formula.{Formula}
use Rattle.rp_lang.specs.declared.formula.Arm.{Arm}
use Rattle.rp_lang.specs.declared.formula.Formula.TheVariants as made
use Rattle.rp_lang.specs.declared.formula.Formula.TheOpen as layer
use Rattle.rp_lang.specs.declared.formula.Formula.TheFolds.{fold-roll-Formula, fold_out-Arm}
use Rattle.rp_lang.specs.Formulas as fo
use Rattle.rp_lang.specs.Formulas.{Fo}
use Rattle.rp_lang.specs.Views.{ArmView, formula_step, arm_step, expr_view, formula_view, formulas_view, arm_view, arms_view}

pub formula_view-And : (parts : List Formula) → formula_view (made.And parts) ≡ fo.And (formulas_view parts)
formula_view-And parts = ap formula_view (sym (made.rolls-And parts)) ∙ fold-roll-Formula Fo ArmView formula_step arm_step (layer.And parts)

pub formula_view-Or : (parts : List Formula) → formula_view (made.Or parts) ≡ fo.Or (formulas_view parts)
formula_view-Or parts = ap formula_view (sym (made.rolls-Or parts)) ∙ fold-roll-Formula Fo ArmView formula_step arm_step (layer.Or parts)

pub formula_view-Not : (f : Formula) → formula_view (made.Not f) ≡ fo.Not (formula_view f)
formula_view-Not f = ap formula_view (sym (made.rolls-Not f)) ∙ fold-roll-Formula Fo ArmView formula_step arm_step (layer.Not f)

pub formula_view-Implies : (a b : Formula) → formula_view (made.Implies a b) ≡ fo.Implies (formula_view a) (formula_view b)
formula_view-Implies a b = ap formula_view (sym (made.rolls-Implies a b)) ∙ fold-roll-Formula Fo ArmView formula_step arm_step (layer.Implies a b)

pub formula_view-All : (ty : Ty) (body : Formula) → formula_view (made.All ty body) ≡ fo.All ty (formula_view body)
formula_view-All ty body = ap formula_view (sym (made.rolls-All ty body)) ∙ fold-roll-Formula Fo ArmView formula_step arm_step (layer.All ty body)

pub formula_view-Any : (ty : Ty) (body : Formula) → formula_view (made.Any ty body) ≡ fo.Any ty (formula_view body)
formula_view-Any ty body = ap formula_view (sym (made.rolls-Any ty body)) ∙ fold-roll-Formula Fo ArmView formula_step arm_step (layer.Any ty body)

pub formula_view-Holds : (e : Expr) → formula_view (made.Holds e) ≡ fo.Holds (expr_view e)
formula_view-Holds e = ap formula_view (sym (made.rolls-Holds e)) ∙ fold-roll-Formula Fo ArmView formula_step arm_step (layer.Holds e)

pub formula_view-Equal : (a b : Expr) → formula_view (made.Equal a b) ≡ fo.Equal (expr_view a) (expr_view b)
formula_view-Equal a b = ap formula_view (sym (made.rolls-Equal a b)) ∙ fold-roll-Formula Fo ArmView formula_step arm_step (layer.Equal a b)

pub formula_view-Less : (a b : Expr) → formula_view (made.Less a b) ≡ fo.Less (expr_view a) (expr_view b)
formula_view-Less a b = ap formula_view (sym (made.rolls-Less a b)) ∙ fold-roll-Formula Fo ArmView formula_step arm_step (layer.Less a b)

pub formula_view-AtMost : (a b : Expr) → formula_view (made.AtMost a b) ≡ fo.AtMost (expr_view a) (expr_view b)
formula_view-AtMost a b = ap formula_view (sym (made.rolls-AtMost a b)) ∙ fold-roll-Formula Fo ArmView formula_step arm_step (layer.AtMost a b)

pub formula_view-Visible : (call : Expr) → formula_view (made.Visible call) ≡ fo.Visible (expr_view call)
formula_view-Visible call = ap formula_view (sym (made.rolls-Visible call)) ∙ fold-roll-Formula Fo ArmView formula_step arm_step (layer.Visible call)

pub formula_view-Before : (a b : Expr) → formula_view (made.Before a b) ≡ fo.Before (expr_view a) (expr_view b)
formula_view-Before a b = ap formula_view (sym (made.rolls-Before a b)) ∙ fold-roll-Formula Fo ArmView formula_step arm_step (layer.Before a b)

pub formula_view-Same : (a b : Expr) → formula_view (made.Same a b) ≡ fo.Same (expr_view a) (expr_view b)
formula_view-Same a b = ap formula_view (sym (made.rolls-Same a b)) ∙ fold-roll-Formula Fo ArmView formula_step arm_step (layer.Same a b)

pub formula_view-Match : (on : Expr) (arms : List Arm) → formula_view (made.Match on arms) ≡ fo.Match (expr_view on) (arms_view arms)
formula_view-Match on arms = ap formula_view (sym (made.rolls-Match on arms)) ∙ fold-roll-Formula Fo ArmView formula_step arm_step (layer.Match on arms)

pub arm_view-parts : (a : Arm) → arm_view a ≡ (a.con, formula_view a.body)
arm_view-parts a = fold_out-Arm Fo ArmView formula_step arm_step a

pub ruleset formula_views = (arm_view-parts, formula_view-And, formula_view-Or, formula_view-Not, formula_view-Implies, formula_view-All, formula_view-Any, formula_view-Holds, formula_view-Equal, formula_view-Less, formula_view-AtMost, formula_view-Visible, formula_view-Before, formula_view-Same, formula_view-Match)
