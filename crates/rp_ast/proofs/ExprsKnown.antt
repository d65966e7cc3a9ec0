-- Expressions are known by what they are seen as.
use Rattle.std.proofs.Common.{◌≡◌, List, [], ◌∷◌, map, Option, Some, None, ap, sym, ◌∙◌, refl, subst}
use Rattle.rp_ast.specs.declared.ident.Ident as code_ident
use Rattle.rp_ast.specs.declared.expr.PatternNode.{PatternNode}
use Rattle.rp_ast.specs.declared.expr.ExprNode.{ExprNode}
use Rattle.rp_ast.specs.declared.expr.ExprArm.{ExprArm}
use Rattle.rp_ast.specs.declared.expr.AccessNode.{AccessNode}
use Rattle.rp_ast.specs.declared.expr.AccessStep.{AccessStep}
use Rattle.rp_ast.specs.declared.expr.ExprForm as code_expr
use Rattle.rp_ast.specs.declared.expr.ExprForm.TheVariants as made
use Rattle.rp_ast.specs.declared.expr.AccessStep.TheVariants as step_made
use Rattle.rp_ast.specs.declared.expr.AccessStep.TheOpen as layer
use Rattle.rp_ast.specs.declared.expr.AccessStep.TheViews.{roll-AccessStep, roll-ExprForm, roll-AccessNode, roll-ExprArm, roll-ExprNode}
use Rattle.rp_ast.specs.declared.expr.AccessStep.TheFolds.{fold-roll-AccessStep, fold-roll-ExprForm, fold-roll-AccessNode, fold-roll-ExprArm, fold-roll-ExprNode}
use Rattle.rp_ast.specs.declared.expr.AccessStep.TheFolds.{map-AccessStep, map-ExprForm, map-AccessNode, map-ExprArm, map-ExprNode, ind-AccessNode, ind-ExprNode}
use Rattle.rp_grammar.specs.Trees.{PatternTree, ExprTree, ExprForm, ExprTrees, ExprArmTree, ExprArmTrees, AccessTree, StepTree, StepTrees, ArgTrees}
use Rattle.rp_ast.specs.View.{optional, pattern_view, step_step, expr_form_step, access_step, expr_arm_step, expr_step, step_view, expr_form_view, access_view, expr_arm_view, expr_view, steps_view, exprs_view, expr_arms_view}
use Rattle.rp_ast.proofs.TypesKnown.{ap2, ident_of, idents_of, idents_back, param_of, param_back}

abbrev pub pattern_of : PatternTree → PatternNode
pattern_of (PatternTree.pattern c vs) = record { con = ident_of c; vars = idents_of vs }

pub pattern_back : (p : PatternNode) → pattern_of (pattern_view p) ≡ p
pattern_back p = let node : List code_ident.Ident → PatternNode = λ vs. record { con = p.con; vars = vs } in ap node (idents_back p.vars)

abbrev access_made : code_ident.Ident → List AccessStep → Option (List ExprNode) → AccessNode
access_made root xs args = roll-AccessNode (record { root = root; steps = xs; args = args })

abbrev mutual
  pub expr_node_of : ExprTree → ExprNode
  expr_node_of (ExprTree.node s f) = record { span = s; what = expr_form_of f }

  expr_form_of : ExprForm → code_expr.ExprForm
  expr_form_of (ExprForm.implies a b) = made.Implies (expr_node_of a) (expr_node_of b)
  expr_form_of (ExprForm.or es) = made.Or (expr_nodes_of es)
  expr_form_of (ExprForm.and es) = made.And (expr_nodes_of es)
  expr_form_of (ExprForm.not e) = made.Not (expr_node_of e)
  expr_form_of (ExprForm.forall p e) = made.Forall (param_of p) (expr_node_of e)
  expr_form_of (ExprForm.exists p e) = made.Exists (param_of p) (expr_node_of e)
  expr_form_of (ExprForm.compare c a b) = made.Compare c (expr_node_of a) (expr_node_of b)
  expr_form_of (ExprForm.plus a b) = made.Plus (expr_node_of a) (expr_node_of b)
  expr_form_of (ExprForm.minus a b) = made.Minus (expr_node_of a) (expr_node_of b)
  expr_form_of (ExprForm.int n) = made.Int n
  expr_form_of (ExprForm.str bytes) = made.Str bytes
  expr_form_of (ExprForm.truth b) = made.Truth b
  expr_form_of ExprForm.none_word = made.NoneWord
  expr_form_of (ExprForm.some_of e) = made.SomeOf (expr_node_of e)
  expr_form_of ExprForm.unreturned = made.Unreturned
  expr_form_of ExprForm.tx = made.Tx
  expr_form_of (ExprForm.call w es) = made.Call w (expr_nodes_of es)
  expr_form_of (ExprForm.match e as_) = made.Match (expr_node_of e) (arm_nodes_of as_)
  expr_form_of (ExprForm.access a) = made.Access (access_node_of a)

  expr_nodes_of : ExprTrees → List ExprNode
  expr_nodes_of ExprTrees.no_exprs = []
  expr_nodes_of (ExprTrees.more_exprs e es) = expr_node_of e ∷ expr_nodes_of es

  arm_node_of : ExprArmTree → ExprArm
  arm_node_of (ExprArmTree.arm p e) = record { pattern = pattern_of p; body = expr_node_of e }

  arm_nodes_of : ExprArmTrees → List ExprArm
  arm_nodes_of ExprArmTrees.no_expr_arms = []
  arm_nodes_of (ExprArmTrees.more_expr_arms a as_) = arm_node_of a ∷ arm_nodes_of as_

  pub access_node_of : AccessTree → AccessNode
  access_node_of (AccessTree.path n xs as_) = access_made (ident_of n) (step_nodes_of xs) (args_of as_)

  step_node_of : StepTree → AccessStep
  step_node_of (StepTree.dot n) = step_made.Dot (ident_of n)
  step_node_of (StepTree.returned s) = step_made.Returned s
  step_node_of (StepTree.key e) = step_made.Key (expr_node_of e)

  step_nodes_of : StepTrees → List AccessStep
  step_nodes_of StepTrees.no_steps = []
  step_nodes_of (StepTrees.more_steps x xs) = step_node_of x ∷ step_nodes_of xs

  args_of : ArgTrees → Option (List ExprNode)
  args_of ArgTrees.absent = None
  args_of (ArgTrees.given es) = Some (expr_nodes_of es)

abbrev StepBack : AccessStep → Type 0
StepBack x = step_node_of (step_view x) ≡ x

abbrev FormBack : code_expr.ExprForm → Type 0
FormBack f = expr_form_of (expr_form_view f) ≡ f

abbrev AccessBack : AccessNode → Type 0
AccessBack a = access_node_of (access_view a) ≡ a

abbrev ArmBack : ExprArm → Type 0
ArmBack a = arm_node_of (expr_arm_view a) ≡ a

abbrev ExprBack : ExprNode → Type 0
ExprBack e = expr_node_of (expr_view e) ≡ e

abbrev OfStep : Type 0
OfStep = (x : AccessStep) × StepBack x

abbrev OfForm : Type 0
OfForm = (f : code_expr.ExprForm) × FormBack f

abbrev OfAccess : Type 0
OfAccess = (a : AccessNode) × AccessBack a

abbrev OfArm : Type 0
OfArm = (a : ExprArm) × ArmBack a

abbrev OfExpr : Type 0
OfExpr = (e : ExprNode) × ExprBack e

each_expr : (es : List OfExpr) → expr_nodes_of (exprs_view (map (λ e. e.0) es)) ≡ map (λ e. e.0) es
each_expr [] = refl
each_expr (e ∷ es) = ap2 (λ f fs. f ∷ fs) e.1 (each_expr es)

each_arm : (as_ : List OfArm) → arm_nodes_of (expr_arms_view (map (λ e. e.0) as_)) ≡ map (λ e. e.0) as_
each_arm [] = refl
each_arm (a ∷ as_) = ap2 (λ b bs. b ∷ bs) a.1 (each_arm as_)

each_step : (xs : List OfStep) → step_nodes_of (steps_view (map (λ e. e.0) xs)) ≡ map (λ e. e.0) xs
each_step [] = refl
each_step (x ∷ xs) = ap2 (λ y ys. y ∷ ys) x.1 (each_step xs)

seen_step : (x : layer.AccessStep-F AccessStep code_expr.ExprForm AccessNode ExprArm ExprNode) → step_node_of (step_view (roll-AccessStep x)) ≡ step_node_of (step_step (map-AccessStep AccessStep code_expr.ExprForm AccessNode ExprArm ExprNode StepTree ExprForm AccessTree ExprArmTree ExprTree step_view expr_form_view access_view expr_arm_view expr_view x))
seen_step x = ap step_node_of (fold-roll-AccessStep StepTree ExprForm AccessTree ExprArmTree ExprTree step_step expr_form_step access_step expr_arm_step expr_step x)

seen_form : (x : layer.ExprForm-F AccessStep code_expr.ExprForm AccessNode ExprArm ExprNode) → expr_form_of (expr_form_view (roll-ExprForm x)) ≡ expr_form_of (expr_form_step (map-ExprForm AccessStep code_expr.ExprForm AccessNode ExprArm ExprNode StepTree ExprForm AccessTree ExprArmTree ExprTree step_view expr_form_view access_view expr_arm_view expr_view x))
seen_form x = ap expr_form_of (fold-roll-ExprForm StepTree ExprForm AccessTree ExprArmTree ExprTree step_step expr_form_step access_step expr_arm_step expr_step x)

step_back : (y : layer.AccessStep-F OfStep OfForm OfAccess OfArm OfExpr) → StepBack (roll-AccessStep (map-AccessStep OfStep OfForm OfAccess OfArm OfExpr AccessStep code_expr.ExprForm AccessNode ExprArm ExprNode (λ e. e.0) (λ e. e.0) (λ e. e.0) (λ e. e.0) (λ e. e.0) y))
step_back (layer.Dot n) = seen_step (layer.Dot n) ∙ sym (step_made.rolls-Dot n)
step_back (layer.Returned s) = seen_step (layer.Returned s) ∙ sym (step_made.rolls-Returned s)
step_back (layer.Key e) = seen_step (layer.Key e.0) ∙ ap step_made.Key e.1 ∙ sym (step_made.rolls-Key e.0)

form_back : (y : layer.ExprForm-F OfStep OfForm OfAccess OfArm OfExpr) → FormBack (roll-ExprForm (map-ExprForm OfStep OfForm OfAccess OfArm OfExpr AccessStep code_expr.ExprForm AccessNode ExprArm ExprNode (λ e. e.0) (λ e. e.0) (λ e. e.0) (λ e. e.0) (λ e. e.0) y))
form_back (layer.Implies a b) = seen_form (layer.Implies a.0 b.0) ∙ ap2 made.Implies a.1 b.1 ∙ sym (made.rolls-Implies a.0 b.0)
form_back (layer.Or es) = seen_form (layer.Or (map (λ e. e.0) es)) ∙ ap made.Or (each_expr es) ∙ sym (made.rolls-Or (map (λ e. e.0) es))
form_back (layer.And es) = seen_form (layer.And (map (λ e. e.0) es)) ∙ ap made.And (each_expr es) ∙ sym (made.rolls-And (map (λ e. e.0) es))
form_back (layer.Not e) = seen_form (layer.Not e.0) ∙ ap made.Not e.1 ∙ sym (made.rolls-Not e.0)
form_back (layer.Forall p e) = seen_form (layer.Forall p e.0) ∙ ap2 made.Forall (param_back p) e.1 ∙ sym (made.rolls-Forall p e.0)
form_back (layer.Exists p e) = seen_form (layer.Exists p e.0) ∙ ap2 made.Exists (param_back p) e.1 ∙ sym (made.rolls-Exists p e.0)
form_back (layer.Compare c a b) = seen_form (layer.Compare c a.0 b.0) ∙ ap2 (made.Compare c) a.1 b.1 ∙ sym (made.rolls-Compare c a.0 b.0)
form_back (layer.Plus a b) = seen_form (layer.Plus a.0 b.0) ∙ ap2 made.Plus a.1 b.1 ∙ sym (made.rolls-Plus a.0 b.0)
form_back (layer.Minus a b) = seen_form (layer.Minus a.0 b.0) ∙ ap2 made.Minus a.1 b.1 ∙ sym (made.rolls-Minus a.0 b.0)
form_back (layer.Int n) = seen_form (layer.Int n) ∙ sym (made.rolls-Int n)
form_back (layer.Str bytes) = seen_form (layer.Str bytes) ∙ sym (made.rolls-Str bytes)
form_back (layer.Truth b) = seen_form (layer.Truth b) ∙ sym (made.rolls-Truth b)
form_back layer.NoneWord = seen_form layer.NoneWord ∙ sym made.rolls-NoneWord
form_back (layer.SomeOf e) = seen_form (layer.SomeOf e.0) ∙ ap made.SomeOf e.1 ∙ sym (made.rolls-SomeOf e.0)
form_back layer.Unreturned = seen_form layer.Unreturned ∙ sym made.rolls-Unreturned
form_back layer.Tx = seen_form layer.Tx ∙ sym made.rolls-Tx
form_back (layer.Call w es) = seen_form (layer.Call w (map (λ e. e.0) es)) ∙ ap (made.Call w) (each_expr es) ∙ sym (made.rolls-Call w (map (λ e. e.0) es))
form_back (layer.Match e as_) = seen_form (layer.Match e.0 (map (λ e. e.0) as_)) ∙ ap2 made.Match e.1 (each_arm as_) ∙ sym (made.rolls-Match e.0 (map (λ e. e.0) as_))
form_back (layer.Access a) = seen_form (layer.Access a.0) ∙ ap made.Access a.1 ∙ sym (made.rolls-Access a.0)

access_layer : (root : code_ident.Ident) (xs : List OfStep) (args : Option (List OfExpr))
    → AccessBack (roll-AccessNode (map-AccessNode OfStep OfForm OfAccess OfArm OfExpr AccessStep code_expr.ExprForm AccessNode ExprArm ExprNode (λ e. e.0) (λ e. e.0) (λ e. e.0) (λ e. e.0) (λ e. e.0) (record { root = root; steps = xs; args = args })))
access_layer root xs None =
    let x : layer.AccessNode-F AccessStep code_expr.ExprForm AccessNode ExprArm ExprNode = record { root = root; steps = map (λ e. e.0) xs; args = None } in
    ap access_node_of (fold-roll-AccessNode StepTree ExprForm AccessTree ExprArmTree ExprTree step_step expr_form_step access_step expr_arm_step expr_step x) ∙ ap (λ ys. access_made root ys None) (each_step xs)
access_layer root xs (Some es) =
    let x : layer.AccessNode-F AccessStep code_expr.ExprForm AccessNode ExprArm ExprNode = record { root = root; steps = map (λ e. e.0) xs; args = Some (map (λ e. e.0) es) } in
    ap access_node_of (fold-roll-AccessNode StepTree ExprForm AccessTree ExprArmTree ExprTree step_step expr_form_step access_step expr_arm_step expr_step x) ∙ ap2 (λ ys fs. access_made root ys (Some fs)) (each_step xs) (each_expr es)

arm_back : (y : layer.ExprArm-F OfStep OfForm OfAccess OfArm OfExpr) → ArmBack (roll-ExprArm (map-ExprArm OfStep OfForm OfAccess OfArm OfExpr AccessStep code_expr.ExprForm AccessNode ExprArm ExprNode (λ e. e.0) (λ e. e.0) (λ e. e.0) (λ e. e.0) (λ e. e.0) y))
arm_back y =
    let node : PatternNode → ExprNode → ExprArm = λ p e. record { pattern = p; body = e } in
    ap arm_node_of (fold-roll-ExprArm StepTree ExprForm AccessTree ExprArmTree ExprTree step_step expr_form_step access_step expr_arm_step expr_step (map-ExprArm OfStep OfForm OfAccess OfArm OfExpr AccessStep code_expr.ExprForm AccessNode ExprArm ExprNode (λ e. e.0) (λ e. e.0) (λ e. e.0) (λ e. e.0) (λ e. e.0) y)) ∙ ap2 node (pattern_back y.pattern) y.body.1

node_back : (y : layer.ExprNode-F OfStep OfForm OfAccess OfArm OfExpr) → ExprBack (roll-ExprNode (map-ExprNode OfStep OfForm OfAccess OfArm OfExpr AccessStep code_expr.ExprForm AccessNode ExprArm ExprNode (λ e. e.0) (λ e. e.0) (λ e. e.0) (λ e. e.0) (λ e. e.0) y))
node_back y =
    let node : code_expr.ExprForm → ExprNode = λ f. record { span = y.span; what = f } in
    ap expr_node_of (fold-roll-ExprNode StepTree ExprForm AccessTree ExprArmTree ExprTree step_step expr_form_step access_step expr_arm_step expr_step (map-ExprNode OfStep OfForm OfAccess OfArm OfExpr AccessStep code_expr.ExprForm AccessNode ExprArm ExprNode (λ e. e.0) (λ e. e.0) (λ e. e.0) (λ e. e.0) (λ e. e.0) y)) ∙ ap node y.what.1

pub expr_back : (e : ExprNode) → expr_node_of (expr_view e) ≡ e
expr_back = ind-ExprNode StepBack FormBack AccessBack ArmBack ExprBack
    (λ x y is. subst (λ z. StepBack (roll-AccessStep z)) is (step_back y))
    (λ x y is. subst (λ z. FormBack (roll-ExprForm z)) is (form_back y))
    (λ x y is. subst (λ z. AccessBack (roll-AccessNode z)) is (access_layer y.root y.steps y.args))
    (λ x y is. subst (λ z. ArmBack (roll-ExprArm z)) is (arm_back y))
    (λ x y is. subst (λ z. ExprBack (roll-ExprNode z)) is (node_back y))

pub access_back : (a : AccessNode) → access_node_of (access_view a) ≡ a
access_back = ind-AccessNode StepBack FormBack AccessBack ArmBack ExprBack
    (λ x y is. subst (λ z. StepBack (roll-AccessStep z)) is (step_back y))
    (λ x y is. subst (λ z. FormBack (roll-ExprForm z)) is (form_back y))
    (λ x y is. subst (λ z. AccessBack (roll-AccessNode z)) is (access_layer y.root y.steps y.args))
    (λ x y is. subst (λ z. ArmBack (roll-ExprArm z)) is (arm_back y))
    (λ x y is. subst (λ z. ExprBack (roll-ExprNode z)) is (node_back y))

pub value_back : (e : Option ExprNode) → optional expr_node_of (optional expr_view e) ≡ e
value_back None = refl
value_back (Some e) = ap (λ f. Some f) (expr_back e)
