-- What each variant of a statement is seen as.
use Rattle.std.proofs.Common.{◌≡◌, ℕ, List, Some, None, ap, sym, ◌∙◌}
use Rattle.rp_span.specs.declared.Span.{Span}
use Rattle.rp_lang.specs.declared.expr.Expr.{Expr}
use Rattle.rp_lang.specs.declared.formula.Formula.{Formula}
use Rattle.rp_lang.specs.declared.stmt.Stmt.{Stmt}
use Rattle.rp_lang.specs.declared.stmt.StmtArm.{StmtArm}
use Rattle.rp_lang.specs.declared.stmt.StmtKind.TheVariants as made
use Rattle.rp_lang.specs.declared.stmt.StmtKind.TheOpen as layer
use Rattle.rp_lang.specs.declared.stmt.StmtKind.TheViews.{out-StmtArm}
use Rattle.rp_lang.specs.declared.stmt.StmtKind.TheFolds.{fold-roll-StmtKind, fold_out-Stmt, fold_out-StmtArm}
use Rattle.rp_lang.specs.Stmts as st
use Rattle.rp_lang.specs.Stmts.{St}
use Rattle.rp_lang.specs.Views.{Placed, StArmView, kind_step, stmt_step, stmt_arm_step, expr_view, exprs_view, formula_view, kind_view, stmt_view, stmts_view, stmt_arm_view, stmt_arms_view}

-- a statement is what it does, at its place
pub stmt_view-what : (s : Stmt) → stmt_view s ≡ kind_view s.what s.at
stmt_view-what s = fold_out-Stmt Placed St StArmView kind_step stmt_step stmt_arm_step s

pub kind_view-Put : (slot : ℕ) (e : Expr) (at : Span) → kind_view (made.Put slot e) at ≡ st.Put at slot (expr_view e)
kind_view-Put slot e at = ap (λ k. kind_view k at) (sym (made.rolls-Put slot e)) ∙ ap (λ placed. placed at) (fold-roll-StmtKind Placed St StArmView kind_step stmt_step stmt_arm_step (layer.Put slot e))

pub kind_view-Decide : (slot : ℕ) (f : Formula) (at : Span) → kind_view (made.Decide slot f) at ≡ st.Decide at slot (formula_view f)
kind_view-Decide slot f at = ap (λ k. kind_view k at) (sym (made.rolls-Decide slot f)) ∙ ap (λ placed. placed at) (fold-roll-StmtKind Placed St StArmView kind_step stmt_step stmt_arm_step (layer.Decide slot f))

pub kind_view-New : (slot ty : ℕ) (at : Span) → kind_view (made.New slot ty) at ≡ st.New at slot ty
kind_view-New slot ty at = ap (λ k. kind_view k at) (sym (made.rolls-New slot ty)) ∙ ap (λ placed. placed at) (fold-roll-StmtKind Placed St StArmView kind_step stmt_step stmt_arm_step (layer.New slot ty))

pub kind_view-Operate : (op : ℕ) (args : List Expr) (at : Span) → kind_view (made.Operate op args) at ≡ st.Operate at op (exprs_view args)
kind_view-Operate op args at = ap (λ k. kind_view k at) (sym (made.rolls-Operate op args)) ∙ ap (λ placed. placed at) (fold-roll-StmtKind Placed St StArmView kind_step stmt_step stmt_arm_step (layer.Operate op args))

pub kind_view-If : (f : Formula) (then_ else_ : List Stmt) (at : Span) → kind_view (made.If f then_ else_) at ≡ st.If at (formula_view f) (stmts_view then_) (stmts_view else_)
kind_view-If f then_ else_ at = ap (λ k. kind_view k at) (sym (made.rolls-If f then_ else_)) ∙ ap (λ placed. placed at) (fold-roll-StmtKind Placed St StArmView kind_step stmt_step stmt_arm_step (layer.If f then_ else_))

pub kind_view-Match : (on : Expr) (arms : List StmtArm) (at : Span) → kind_view (made.Match on arms) at ≡ st.Match at (expr_view on) (stmt_arms_view arms)
kind_view-Match on arms at = ap (λ k. kind_view k at) (sym (made.rolls-Match on arms)) ∙ ap (λ placed. placed at) (fold-roll-StmtKind Placed St StArmView kind_step stmt_step stmt_arm_step (layer.Match on arms))

pub kind_view-Atomic : (body : List Stmt) (at : Span) → kind_view (made.Atomic body) at ≡ st.Atomic at (stmts_view body)
kind_view-Atomic body at = ap (λ k. kind_view k at) (sym (made.rolls-Atomic body)) ∙ ap (λ placed. placed at) (fold-roll-StmtKind Placed St StArmView kind_step stmt_step stmt_arm_step (layer.Atomic body))

pub kind_view-Assert : (f : Formula) (at : Span) → kind_view (made.Assert f) at ≡ st.Assert at (formula_view f)
kind_view-Assert f at = ap (λ k. kind_view k at) (sym (made.rolls-Assert f)) ∙ ap (λ placed. placed at) (fold-roll-StmtKind Placed St StArmView kind_step stmt_step stmt_arm_step (layer.Assert f))

pub kind_view-Return : (at : Span) → kind_view (made.Return None) at ≡ st.Return at
kind_view-Return at = ap (λ k. kind_view k at) (sym (made.rolls-Return None)) ∙ ap (λ placed. placed at) (fold-roll-StmtKind Placed St StArmView kind_step stmt_step stmt_arm_step (layer.Return None))

pub kind_view-Return-with : (e : Expr) (at : Span) → kind_view (made.Return (Some e)) at ≡ st.ReturnWith at (expr_view e)
kind_view-Return-with e at = ap (λ k. kind_view k at) (sym (made.rolls-Return (Some e))) ∙ ap (λ placed. placed at) (fold-roll-StmtKind Placed St StArmView kind_step stmt_step stmt_arm_step (layer.Return (Some e)))

pub stmt_arm_view-parts : (a : StmtArm) → stmt_arm_view a ≡ ((out-StmtArm a).con, (out-StmtArm a).slots, stmts_view (out-StmtArm a).body)
stmt_arm_view-parts a = fold_out-StmtArm Placed St StArmView kind_step stmt_step stmt_arm_step a

pub ruleset stmt_views = (stmt_arm_view-parts, stmt_view-what, kind_view-Put, kind_view-Decide, kind_view-New, kind_view-Operate, kind_view-If, kind_view-Match, kind_view-Atomic, kind_view-Assert, kind_view-Return, kind_view-Return-with)
