-- What each form of an expression is seen as.
use Rattle.std.proofs.Common.{◌≡◌, ℕ, ℤ, Bool, List, Option, Some, None, refl, ap, sym, ◌∙◌}
use Rattle.rp_span.specs.declared.Span.{Span}
use Rattle.rp_ast.specs.declared.ident.Ident as code_ident
use Rattle.rp_ast.specs.declared.ty.Param.{Param}
use Rattle.rp_ast.specs.declared.expr.ExprNode.{ExprNode}
use Rattle.rp_ast.specs.declared.expr.ExprArm.{ExprArm}
use Rattle.rp_ast.specs.declared.expr.AccessNode.{AccessNode}
use Rattle.rp_ast.specs.declared.expr.AccessStep.{AccessStep}
use Rattle.rp_ast.specs.declared.expr.ExprForm as code_expr
use Rattle.rp_ast.specs.declared.expr.ExprForm.TheVariants as made
use Rattle.rp_ast.specs.declared.expr.AccessStep.TheVariants as step_made
use Rattle.rp_ast.specs.declared.expr.AccessStep.TheOpen as layer
use Rattle.rp_ast.specs.declared.expr.AccessStep.TheViews.{out-AccessNode}
use Rattle.rp_ast.specs.declared.expr.AccessStep.TheFolds.{fold-roll-ExprForm, fold-roll-AccessStep, map-AccessNode, fold_out-AccessNode, fold_out-ExprArm, fold_out-ExprNode}
use Rattle.rp_grammar.specs.declared.operator.CompareOp.{CompareOp}
use Rattle.rp_grammar.specs.declared.operator.CallWord.{CallWord}
use Rattle.rp_grammar.specs.Trees.{ExprTree, ExprForm, ExprArmTree, AccessTree, StepTree}
use Rattle.rp_ast.specs.View.{ident_view, param_view, pattern_view, step_step, expr_form_step, access_step, expr_arm_step, expr_step, step_view, expr_form_view, access_view, expr_arm_view, expr_view, steps_view, exprs_view, expr_arms_view, args_view}

pub expr_view-parts : (e : ExprNode) → expr_view e ≡ ExprTree.node e.span (expr_form_view e.what)
expr_view-parts e = fold_out-ExprNode StepTree ExprForm AccessTree ExprArmTree ExprTree step_step expr_form_step access_step expr_arm_step expr_step e

pub expr_arm_view-parts : (a : ExprArm) → expr_arm_view a ≡ ExprArmTree.arm (pattern_view a.pattern) (expr_view a.body)
expr_arm_view-parts a = fold_out-ExprArm StepTree ExprForm AccessTree ExprArmTree ExprTree step_step expr_form_step access_step expr_arm_step expr_step a

pub expr_form_view-Implies : (a b : ExprNode) → expr_form_view (made.Implies a b) ≡ ExprForm.implies (expr_view a) (expr_view b)
expr_form_view-Implies a b = ap expr_form_view (sym (made.rolls-Implies a b)) ∙ fold-roll-ExprForm StepTree ExprForm AccessTree ExprArmTree ExprTree step_step expr_form_step access_step expr_arm_step expr_step (layer.Implies a b)

pub expr_form_view-Or : (es : List ExprNode) → expr_form_view (made.Or es) ≡ ExprForm.or (exprs_view es)
expr_form_view-Or es = ap expr_form_view (sym (made.rolls-Or es)) ∙ fold-roll-ExprForm StepTree ExprForm AccessTree ExprArmTree ExprTree step_step expr_form_step access_step expr_arm_step expr_step (layer.Or es)

pub expr_form_view-And : (es : List ExprNode) → expr_form_view (made.And es) ≡ ExprForm.and (exprs_view es)
expr_form_view-And es = ap expr_form_view (sym (made.rolls-And es)) ∙ fold-roll-ExprForm StepTree ExprForm AccessTree ExprArmTree ExprTree step_step expr_form_step access_step expr_arm_step expr_step (layer.And es)

pub expr_form_view-Not : (e : ExprNode) → expr_form_view (made.Not e) ≡ ExprForm.not (expr_view e)
expr_form_view-Not e = ap expr_form_view (sym (made.rolls-Not e)) ∙ fold-roll-ExprForm StepTree ExprForm AccessTree ExprArmTree ExprTree step_step expr_form_step access_step expr_arm_step expr_step (layer.Not e)

pub expr_form_view-Forall : (p : Param) (e : ExprNode) → expr_form_view (made.Forall p e) ≡ ExprForm.forall (param_view p) (expr_view e)
expr_form_view-Forall p e = ap expr_form_view (sym (made.rolls-Forall p e)) ∙ fold-roll-ExprForm StepTree ExprForm AccessTree ExprArmTree ExprTree step_step expr_form_step access_step expr_arm_step expr_step (layer.Forall p e)

pub expr_form_view-Exists : (p : Param) (e : ExprNode) → expr_form_view (made.Exists p e) ≡ ExprForm.exists (param_view p) (expr_view e)
expr_form_view-Exists p e = ap expr_form_view (sym (made.rolls-Exists p e)) ∙ fold-roll-ExprForm StepTree ExprForm AccessTree ExprArmTree ExprTree step_step expr_form_step access_step expr_arm_step expr_step (layer.Exists p e)

pub expr_form_view-Compare : (c : CompareOp) (a b : ExprNode) → expr_form_view (made.Compare c a b) ≡ ExprForm.compare c (expr_view a) (expr_view b)
expr_form_view-Compare c a b = ap expr_form_view (sym (made.rolls-Compare c a b)) ∙ fold-roll-ExprForm StepTree ExprForm AccessTree ExprArmTree ExprTree step_step expr_form_step access_step expr_arm_step expr_step (layer.Compare c a b)

pub expr_form_view-Plus : (a b : ExprNode) → expr_form_view (made.Plus a b) ≡ ExprForm.plus (expr_view a) (expr_view b)
expr_form_view-Plus a b = ap expr_form_view (sym (made.rolls-Plus a b)) ∙ fold-roll-ExprForm StepTree ExprForm AccessTree ExprArmTree ExprTree step_step expr_form_step access_step expr_arm_step expr_step (layer.Plus a b)

pub expr_form_view-Minus : (a b : ExprNode) → expr_form_view (made.Minus a b) ≡ ExprForm.minus (expr_view a) (expr_view b)
expr_form_view-Minus a b = ap expr_form_view (sym (made.rolls-Minus a b)) ∙ fold-roll-ExprForm StepTree ExprForm AccessTree ExprArmTree ExprTree step_step expr_form_step access_step expr_arm_step expr_step (layer.Minus a b)

pub expr_form_view-Int : (n : ℤ) → expr_form_view (made.Int n) ≡ ExprForm.int n
expr_form_view-Int n = ap expr_form_view (sym (made.rolls-Int n)) ∙ fold-roll-ExprForm StepTree ExprForm AccessTree ExprArmTree ExprTree step_step expr_form_step access_step expr_arm_step expr_step (layer.Int n)

pub expr_form_view-Str : (bytes : List ℕ) → expr_form_view (made.Str bytes) ≡ ExprForm.str bytes
expr_form_view-Str bytes = ap expr_form_view (sym (made.rolls-Str bytes)) ∙ fold-roll-ExprForm StepTree ExprForm AccessTree ExprArmTree ExprTree step_step expr_form_step access_step expr_arm_step expr_step (layer.Str bytes)

pub expr_form_view-Truth : (b : Bool) → expr_form_view (made.Truth b) ≡ ExprForm.truth b
expr_form_view-Truth b = ap expr_form_view (sym (made.rolls-Truth b)) ∙ fold-roll-ExprForm StepTree ExprForm AccessTree ExprArmTree ExprTree step_step expr_form_step access_step expr_arm_step expr_step (layer.Truth b)

pub expr_form_view-NoneWord : expr_form_view made.NoneWord ≡ ExprForm.none_word
expr_form_view-NoneWord = ap expr_form_view (sym made.rolls-NoneWord) ∙ fold-roll-ExprForm StepTree ExprForm AccessTree ExprArmTree ExprTree step_step expr_form_step access_step expr_arm_step expr_step layer.NoneWord

pub expr_form_view-SomeOf : (e : ExprNode) → expr_form_view (made.SomeOf e) ≡ ExprForm.some_of (expr_view e)
expr_form_view-SomeOf e = ap expr_form_view (sym (made.rolls-SomeOf e)) ∙ fold-roll-ExprForm StepTree ExprForm AccessTree ExprArmTree ExprTree step_step expr_form_step access_step expr_arm_step expr_step (layer.SomeOf e)

pub expr_form_view-Unreturned : expr_form_view made.Unreturned ≡ ExprForm.unreturned
expr_form_view-Unreturned = ap expr_form_view (sym made.rolls-Unreturned) ∙ fold-roll-ExprForm StepTree ExprForm AccessTree ExprArmTree ExprTree step_step expr_form_step access_step expr_arm_step expr_step layer.Unreturned

pub expr_form_view-Tx : expr_form_view made.Tx ≡ ExprForm.tx
expr_form_view-Tx = ap expr_form_view (sym made.rolls-Tx) ∙ fold-roll-ExprForm StepTree ExprForm AccessTree ExprArmTree ExprTree step_step expr_form_step access_step expr_arm_step expr_step layer.Tx

pub expr_form_view-Call : (w : CallWord) (es : List ExprNode) → expr_form_view (made.Call w es) ≡ ExprForm.call w (exprs_view es)
expr_form_view-Call w es = ap expr_form_view (sym (made.rolls-Call w es)) ∙ fold-roll-ExprForm StepTree ExprForm AccessTree ExprArmTree ExprTree step_step expr_form_step access_step expr_arm_step expr_step (layer.Call w es)

pub expr_form_view-Match : (e : ExprNode) (as_ : List ExprArm) → expr_form_view (made.Match e as_) ≡ ExprForm.match (expr_view e) (expr_arms_view as_)
expr_form_view-Match e as_ = ap expr_form_view (sym (made.rolls-Match e as_)) ∙ fold-roll-ExprForm StepTree ExprForm AccessTree ExprArmTree ExprTree step_step expr_form_step access_step expr_arm_step expr_step (layer.Match e as_)

pub expr_form_view-Access : (a : AccessNode) → expr_form_view (made.Access a) ≡ ExprForm.access (access_view a)
expr_form_view-Access a = ap expr_form_view (sym (made.rolls-Access a)) ∙ fold-roll-ExprForm StepTree ExprForm AccessTree ExprArmTree ExprTree step_step expr_form_step access_step expr_arm_step expr_step (layer.Access a)

pub step_view-Dot : (n : code_ident.Ident) → step_view (step_made.Dot n) ≡ StepTree.dot (ident_view n)
step_view-Dot n = ap step_view (sym (step_made.rolls-Dot n)) ∙ fold-roll-AccessStep StepTree ExprForm AccessTree ExprArmTree ExprTree step_step expr_form_step access_step expr_arm_step expr_step (layer.Dot n)

pub step_view-Returned : (s : Span) → step_view (step_made.Returned s) ≡ StepTree.returned s
step_view-Returned s = ap step_view (sym (step_made.rolls-Returned s)) ∙ fold-roll-AccessStep StepTree ExprForm AccessTree ExprArmTree ExprTree step_step expr_form_step access_step expr_arm_step expr_step (layer.Returned s)

pub step_view-Key : (e : ExprNode) → step_view (step_made.Key e) ≡ StepTree.key (expr_view e)
step_view-Key e = ap step_view (sym (step_made.rolls-Key e)) ∙ fold-roll-AccessStep StepTree ExprForm AccessTree ExprArmTree ExprTree step_step expr_form_step access_step expr_arm_step expr_step (layer.Key e)

-- the layer of an access, its parts replaced by what they are seen as
abbrev seen : layer.AccessNode-F AccessStep code_expr.ExprForm AccessNode ExprArm ExprNode → layer.AccessNode-F StepTree ExprForm AccessTree ExprArmTree ExprTree
seen = map-AccessNode AccessStep code_expr.ExprForm AccessNode ExprArm ExprNode StepTree ExprForm AccessTree ExprArmTree ExprTree step_view expr_form_view access_view expr_arm_view expr_view

seen_parts : (root : code_ident.Ident) (steps : List AccessStep) (args : Option (List ExprNode))
    → access_step (seen (record { root = root; steps = steps; args = args })) ≡ AccessTree.path (ident_view root) (steps_view steps) (args_view args)
seen_parts root steps None = refl
seen_parts root steps (Some es) = refl

pub access_view-parts : (a : AccessNode) → access_view a ≡ AccessTree.path (ident_view (out-AccessNode a).root) (steps_view (out-AccessNode a).steps) (args_view (out-AccessNode a).args)
access_view-parts a = fold_out-AccessNode StepTree ExprForm AccessTree ExprArmTree ExprTree step_step expr_form_step access_step expr_arm_step expr_step a
    ∙ seen_parts (out-AccessNode a).root (out-AccessNode a).steps (out-AccessNode a).args

pub ruleset expr_views = (expr_view-parts, expr_arm_view-parts, access_view-parts, expr_form_view-Implies, expr_form_view-Or, expr_form_view-And, expr_form_view-Not, expr_form_view-Forall, expr_form_view-Exists, expr_form_view-Compare, expr_form_view-Plus, expr_form_view-Minus, expr_form_view-Int, expr_form_view-Str, expr_form_view-Truth, expr_form_view-NoneWord, expr_form_view-SomeOf, expr_form_view-Unreturned, expr_form_view-Tx, expr_form_view-Call, expr_form_view-Match, expr_form_view-Access, step_view-Dot, step_view-Returned, step_view-Key)
