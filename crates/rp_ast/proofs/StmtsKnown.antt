-- Statements are known by what they are seen as.
use Rattle.std.proofs.Common.{◌≡◌, List, [], ◌∷◌, map, Option, Some, None, ap, sym, ◌∙◌, refl, subst}
use Rattle.rp_span.specs.declared.Span.{Span}
use Rattle.rp_ast.specs.declared.expr.PatternNode.{PatternNode}
use Rattle.rp_ast.specs.declared.stmt.Block.{Block}
use Rattle.rp_ast.specs.declared.stmt.BlockArm.{BlockArm}
use Rattle.rp_ast.specs.declared.stmt.ElseNode.{ElseNode}
use Rattle.rp_ast.specs.declared.stmt.StmtNode.{StmtNode}
use Rattle.rp_ast.specs.declared.stmt.StmtForm as code_stmt
use Rattle.rp_ast.specs.declared.stmt.StmtForm.TheVariants as made
use Rattle.rp_ast.specs.declared.stmt.ElseNode.TheVariants as else_made
use Rattle.rp_ast.specs.declared.stmt.ElseNode.TheOpen as layer
use Rattle.rp_ast.specs.declared.stmt.ElseNode.TheViews.{roll-ElseNode, roll-StmtForm, roll-Block, roll-BlockArm, roll-StmtNode}
use Rattle.rp_ast.specs.declared.stmt.ElseNode.TheFolds.{fold-roll-ElseNode, fold-roll-StmtForm, fold-roll-Block, fold-roll-BlockArm, fold-roll-StmtNode, map-ElseNode, map-StmtForm, map-Block, map-BlockArm, map-StmtNode, ind-Block}
use Rattle.rp_grammar.specs.Trees.{BlockTree, StmtTree, StmtForm, StmtTrees, ElseTree, BlockArmTree, BlockArmTrees}
use Rattle.rp_ast.specs.View.{optional, else_step, stmt_form_step, block_step, block_arm_step, stmt_step, else_view, stmt_form_view, block_view, block_arm_view, stmt_view, stmts_view, block_arms_view}
use Rattle.rp_ast.proofs.TypesKnown.{ap2, ap3, ident_of, type_node_of, type_back}
use Rattle.rp_ast.proofs.ExprsKnown.{pattern_of, pattern_back, expr_node_of, expr_back, access_node_of, access_back, value_back}

abbrev block_made : Span → List StmtNode → Block
block_made s ss = roll-Block (record { span = s; stmts = ss })

abbrev arm_made : PatternNode → Block → BlockArm
arm_made p b = roll-BlockArm (record { pattern = p; body = b })

abbrev mutual
  pub block_node_of : BlockTree → Block
  block_node_of (BlockTree.block s ss) = block_made s (stmt_nodes_of ss)

  stmt_nodes_of : StmtTrees → List StmtNode
  stmt_nodes_of StmtTrees.no_stmts = []
  stmt_nodes_of (StmtTrees.more_stmts x xs) = stmt_node_of x ∷ stmt_nodes_of xs

  stmt_node_of : StmtTree → StmtNode
  stmt_node_of (StmtTree.node s f) = record { span = s; what = stmt_form_of f }

  stmt_form_of : StmtForm → code_stmt.StmtForm
  stmt_form_of (StmtForm.var n t e) = made.Var (ident_of n) (type_node_of t) (optional expr_node_of e)
  stmt_form_of (StmtForm.new n t) = made.New (ident_of n) (ident_of t)
  stmt_form_of (StmtForm.assign n e) = made.Assign (ident_of n) (expr_node_of e)
  stmt_form_of (StmtForm.access a) = made.Access (access_node_of a)
  stmt_form_of (StmtForm.if_ e b x) = made.If (expr_node_of e) (block_node_of b) (else_node_of x)
  stmt_form_of (StmtForm.match e as_) = made.Match (expr_node_of e) (arm_nodes_of as_)
  stmt_form_of (StmtForm.atomic b) = made.Atomic (block_node_of b)
  stmt_form_of (StmtForm.assert e) = made.Assert (expr_node_of e)
  stmt_form_of (StmtForm.return e) = made.Return (optional expr_node_of e)

  else_node_of : ElseTree → Option ElseNode
  else_node_of ElseTree.no_else = None
  else_node_of (ElseTree.else_block b) = Some (else_made.Block (block_node_of b))
  else_node_of (ElseTree.else_if x) = Some (else_made.If (stmt_node_of x))

  arm_node_of : BlockArmTree → BlockArm
  arm_node_of (BlockArmTree.arm p b) = arm_made (pattern_of p) (block_node_of b)

  arm_nodes_of : BlockArmTrees → List BlockArm
  arm_nodes_of BlockArmTrees.no_block_arms = []
  arm_nodes_of (BlockArmTrees.more_block_arms a as_) = arm_node_of a ∷ arm_nodes_of as_

abbrev ElseBack : ElseNode → Type 0
ElseBack x = else_node_of (else_view x) ≡ Some x

abbrev FormBack : code_stmt.StmtForm → Type 0
FormBack f = stmt_form_of (stmt_form_view f) ≡ f

abbrev BlockBack : Block → Type 0
BlockBack b = block_node_of (block_view b) ≡ b

abbrev ArmBack : BlockArm → Type 0
ArmBack a = arm_node_of (block_arm_view a) ≡ a

abbrev StmtBack : StmtNode → Type 0
StmtBack x = stmt_node_of (stmt_view x) ≡ x

abbrev OfElse : Type 0
OfElse = (x : ElseNode) × ElseBack x

abbrev OfForm : Type 0
OfForm = (f : code_stmt.StmtForm) × FormBack f

abbrev OfBlock : Type 0
OfBlock = (b : Block) × BlockBack b

abbrev OfArm : Type 0
OfArm = (a : BlockArm) × ArmBack a

abbrev OfStmt : Type 0
OfStmt = (x : StmtNode) × StmtBack x

each_stmt : (xs : List OfStmt) → stmt_nodes_of (stmts_view (map (λ e. e.0) xs)) ≡ map (λ e. e.0) xs
each_stmt [] = refl
each_stmt (x ∷ xs) = ap2 (λ y ys. y ∷ ys) x.1 (each_stmt xs)

each_arm : (as_ : List OfArm) → arm_nodes_of (block_arms_view (map (λ e. e.0) as_)) ≡ map (λ e. e.0) as_
each_arm [] = refl
each_arm (a ∷ as_) = ap2 (λ b bs. b ∷ bs) a.1 (each_arm as_)

seen_form : (x : layer.StmtForm-F ElseNode code_stmt.StmtForm Block BlockArm StmtNode) → stmt_form_of (stmt_form_view (roll-StmtForm x)) ≡ stmt_form_of (stmt_form_step (map-StmtForm ElseNode code_stmt.StmtForm Block BlockArm StmtNode ElseTree StmtForm BlockTree BlockArmTree StmtTree else_view stmt_form_view block_view block_arm_view stmt_view x))
seen_form x = ap stmt_form_of (fold-roll-StmtForm ElseTree StmtForm BlockTree BlockArmTree StmtTree else_step stmt_form_step block_step block_arm_step stmt_step x)

seen_else : (x : layer.ElseNode-F ElseNode code_stmt.StmtForm Block BlockArm StmtNode) → else_node_of (else_view (roll-ElseNode x)) ≡ else_node_of (else_step (map-ElseNode ElseNode code_stmt.StmtForm Block BlockArm StmtNode ElseTree StmtForm BlockTree BlockArmTree StmtTree else_view stmt_form_view block_view block_arm_view stmt_view x))
seen_else x = ap else_node_of (fold-roll-ElseNode ElseTree StmtForm BlockTree BlockArmTree StmtTree else_step stmt_form_step block_step block_arm_step stmt_step x)

else_back : (y : layer.ElseNode-F OfElse OfForm OfBlock OfArm OfStmt) → ElseBack (roll-ElseNode (map-ElseNode OfElse OfForm OfBlock OfArm OfStmt ElseNode code_stmt.StmtForm Block BlockArm StmtNode (λ e. e.0) (λ e. e.0) (λ e. e.0) (λ e. e.0) (λ e. e.0) y))
else_back (layer.Block b) = seen_else (layer.Block b.0) ∙ ap (λ c. Some (else_made.Block c)) b.1 ∙ ap (λ x. Some x) (sym (else_made.rolls-Block b.0))
else_back (layer.ElseNode::If s) = seen_else (layer.ElseNode::If s.0) ∙ ap (λ x. Some (else_made.If x)) s.1 ∙ ap (λ x. Some x) (sym (else_made.rolls-If s.0))

form_back : (y : layer.StmtForm-F OfElse OfForm OfBlock OfArm OfStmt) → FormBack (roll-StmtForm (map-StmtForm OfElse OfForm OfBlock OfArm OfStmt ElseNode code_stmt.StmtForm Block BlockArm StmtNode (λ e. e.0) (λ e. e.0) (λ e. e.0) (λ e. e.0) (λ e. e.0) y))
form_back (layer.Var n t e) = seen_form (layer.Var n t e) ∙ ap2 (made.Var n) (type_back t) (value_back e) ∙ sym (made.rolls-Var n t e)
form_back (layer.New n t) = seen_form (layer.New n t) ∙ sym (made.rolls-New n t)
form_back (layer.Assign n e) = seen_form (layer.Assign n e) ∙ ap (made.Assign n) (expr_back e) ∙ sym (made.rolls-Assign n e)
form_back (layer.Access a) = seen_form (layer.Access a) ∙ ap made.Access (access_back a) ∙ sym (made.rolls-Access a)
form_back (layer.StmtForm::If e b None) = seen_form (layer.StmtForm::If e b.0 None) ∙ ap2 (λ f c. made.If f c None) (expr_back e) b.1 ∙ sym (made.rolls-If e b.0 None)
form_back (layer.StmtForm::If e b (Some x)) = seen_form (layer.StmtForm::If e b.0 (Some x.0)) ∙ ap3 made.If (expr_back e) b.1 x.1 ∙ sym (made.rolls-If e b.0 (Some x.0))
form_back (layer.Match e as_) = seen_form (layer.Match e (map (λ e. e.0) as_)) ∙ ap2 made.Match (expr_back e) (each_arm as_) ∙ sym (made.rolls-Match e (map (λ e. e.0) as_))
form_back (layer.Atomic b) = seen_form (layer.Atomic b.0) ∙ ap made.Atomic b.1 ∙ sym (made.rolls-Atomic b.0)
form_back (layer.Assert e) = seen_form (layer.Assert e) ∙ ap made.Assert (expr_back e) ∙ sym (made.rolls-Assert e)
form_back (layer.Return e) = seen_form (layer.Return e) ∙ ap made.Return (value_back e) ∙ sym (made.rolls-Return e)

block_layer : (y : layer.Block-F OfElse OfForm OfBlock OfArm OfStmt) → BlockBack (roll-Block (map-Block OfElse OfForm OfBlock OfArm OfStmt ElseNode code_stmt.StmtForm Block BlockArm StmtNode (λ e. e.0) (λ e. e.0) (λ e. e.0) (λ e. e.0) (λ e. e.0) y))
block_layer y = ap block_node_of (fold-roll-Block ElseTree StmtForm BlockTree BlockArmTree StmtTree else_step stmt_form_step block_step block_arm_step stmt_step (map-Block OfElse OfForm OfBlock OfArm OfStmt ElseNode code_stmt.StmtForm Block BlockArm StmtNode (λ e. e.0) (λ e. e.0) (λ e. e.0) (λ e. e.0) (λ e. e.0) y)) ∙ ap (block_made y.span) (each_stmt y.stmts)

arm_layer : (y : layer.BlockArm-F OfElse OfForm OfBlock OfArm OfStmt) → ArmBack (roll-BlockArm (map-BlockArm OfElse OfForm OfBlock OfArm OfStmt ElseNode code_stmt.StmtForm Block BlockArm StmtNode (λ e. e.0) (λ e. e.0) (λ e. e.0) (λ e. e.0) (λ e. e.0) y))
arm_layer y = ap arm_node_of (fold-roll-BlockArm ElseTree StmtForm BlockTree BlockArmTree StmtTree else_step stmt_form_step block_step block_arm_step stmt_step (map-BlockArm OfElse OfForm OfBlock OfArm OfStmt ElseNode code_stmt.StmtForm Block BlockArm StmtNode (λ e. e.0) (λ e. e.0) (λ e. e.0) (λ e. e.0) (λ e. e.0) y)) ∙ ap2 arm_made (pattern_back y.pattern) y.body.1

stmt_layer : (y : layer.StmtNode-F OfElse OfForm OfBlock OfArm OfStmt) → StmtBack (roll-StmtNode (map-StmtNode OfElse OfForm OfBlock OfArm OfStmt ElseNode code_stmt.StmtForm Block BlockArm StmtNode (λ e. e.0) (λ e. e.0) (λ e. e.0) (λ e. e.0) (λ e. e.0) y))
stmt_layer y =
    let node : code_stmt.StmtForm → StmtNode = λ f. record { span = y.span; what = f } in
    ap stmt_node_of (fold-roll-StmtNode ElseTree StmtForm BlockTree BlockArmTree StmtTree else_step stmt_form_step block_step block_arm_step stmt_step (map-StmtNode OfElse OfForm OfBlock OfArm OfStmt ElseNode code_stmt.StmtForm Block BlockArm StmtNode (λ e. e.0) (λ e. e.0) (λ e. e.0) (λ e. e.0) (λ e. e.0) y)) ∙ ap node y.what.1

pub block_back : (b : Block) → block_node_of (block_view b) ≡ b
block_back = ind-Block ElseBack FormBack BlockBack ArmBack StmtBack
    (λ x y is. subst (λ z. ElseBack (roll-ElseNode z)) is (else_back y))
    (λ x y is. subst (λ z. FormBack (roll-StmtForm z)) is (form_back y))
    (λ x y is. subst (λ z. BlockBack (roll-Block z)) is (block_layer y))
    (λ x y is. subst (λ z. ArmBack (roll-BlockArm z)) is (arm_layer y))
    (λ x y is. subst (λ z. StmtBack (roll-StmtNode z)) is (stmt_layer y))
