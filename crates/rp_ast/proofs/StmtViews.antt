-- What each form of a statement is seen as.
use Rattle.std.proofs.Common.{◌≡◌, List, Option, Some, None, ap, sym, ◌∙◌}
use Rattle.rp_ast.specs.declared.ident.Ident as code_ident
use Rattle.rp_ast.specs.declared.ty.TypeNode.{TypeNode}
use Rattle.rp_ast.specs.declared.expr.ExprNode.{ExprNode}
use Rattle.rp_ast.specs.declared.expr.AccessNode.{AccessNode}
use Rattle.rp_ast.specs.declared.stmt.Block.{Block}
use Rattle.rp_ast.specs.declared.stmt.BlockArm.{BlockArm}
use Rattle.rp_ast.specs.declared.stmt.ElseNode.{ElseNode}
use Rattle.rp_ast.specs.declared.stmt.StmtNode.{StmtNode}
use Rattle.rp_ast.specs.declared.stmt.StmtForm.TheVariants as made
use Rattle.rp_ast.specs.declared.stmt.ElseNode.TheVariants as else_made
use Rattle.rp_ast.specs.declared.stmt.ElseNode.TheOpen as layer
use Rattle.rp_ast.specs.declared.stmt.ElseNode.TheViews.{out-Block, out-BlockArm}
use Rattle.rp_ast.specs.declared.stmt.ElseNode.TheFolds.{fold-roll-StmtForm, fold-roll-ElseNode, fold_out-Block, fold_out-BlockArm, fold_out-StmtNode}
use Rattle.rp_grammar.specs.Trees.{BlockTree, StmtTree, StmtForm, ElseTree, BlockArmTree}
use Rattle.rp_ast.specs.View.{optional, ident_view, type_view, expr_view, access_view, pattern_view, else_step, stmt_form_step, block_step, block_arm_step, stmt_step, else_view, stmt_form_view, block_view, block_arm_view, stmt_view, stmts_view, block_arms_view, maybe_else_view}

pub stmt_view-parts : (s : StmtNode) → stmt_view s ≡ StmtTree.node s.span (stmt_form_view s.what)
stmt_view-parts s = fold_out-StmtNode ElseTree StmtForm BlockTree BlockArmTree StmtTree else_step stmt_form_step block_step block_arm_step stmt_step s

pub block_view-parts : (b : Block) → block_view b ≡ BlockTree.block (out-Block b).span (stmts_view (out-Block b).stmts)
block_view-parts b = fold_out-Block ElseTree StmtForm BlockTree BlockArmTree StmtTree else_step stmt_form_step block_step block_arm_step stmt_step b

pub block_arm_view-parts : (a : BlockArm) → block_arm_view a ≡ BlockArmTree.arm (pattern_view (out-BlockArm a).pattern) (block_view (out-BlockArm a).body)
block_arm_view-parts a = fold_out-BlockArm ElseTree StmtForm BlockTree BlockArmTree StmtTree else_step stmt_form_step block_step block_arm_step stmt_step a

pub stmt_form_view-Var : (n : code_ident.Ident) (t : TypeNode) (e : Option ExprNode) → stmt_form_view (made.Var n t e) ≡ StmtForm.var (ident_view n) (type_view t) (optional expr_view e)
stmt_form_view-Var n t e = ap stmt_form_view (sym (made.rolls-Var n t e)) ∙ fold-roll-StmtForm ElseTree StmtForm BlockTree BlockArmTree StmtTree else_step stmt_form_step block_step block_arm_step stmt_step (layer.Var n t e)

pub stmt_form_view-New : (n t : code_ident.Ident) → stmt_form_view (made.New n t) ≡ StmtForm.new (ident_view n) (ident_view t)
stmt_form_view-New n t = ap stmt_form_view (sym (made.rolls-New n t)) ∙ fold-roll-StmtForm ElseTree StmtForm BlockTree BlockArmTree StmtTree else_step stmt_form_step block_step block_arm_step stmt_step (layer.New n t)

pub stmt_form_view-Assign : (n : code_ident.Ident) (e : ExprNode) → stmt_form_view (made.Assign n e) ≡ StmtForm.assign (ident_view n) (expr_view e)
stmt_form_view-Assign n e = ap stmt_form_view (sym (made.rolls-Assign n e)) ∙ fold-roll-StmtForm ElseTree StmtForm BlockTree BlockArmTree StmtTree else_step stmt_form_step block_step block_arm_step stmt_step (layer.Assign n e)

pub stmt_form_view-Access : (a : AccessNode) → stmt_form_view (made.Access a) ≡ StmtForm.access (access_view a)
stmt_form_view-Access a = ap stmt_form_view (sym (made.rolls-Access a)) ∙ fold-roll-StmtForm ElseTree StmtForm BlockTree BlockArmTree StmtTree else_step stmt_form_step block_step block_arm_step stmt_step (layer.Access a)

pub stmt_form_view-Match : (e : ExprNode) (as_ : List BlockArm) → stmt_form_view (made.Match e as_) ≡ StmtForm.match (expr_view e) (block_arms_view as_)
stmt_form_view-Match e as_ = ap stmt_form_view (sym (made.rolls-Match e as_)) ∙ fold-roll-StmtForm ElseTree StmtForm BlockTree BlockArmTree StmtTree else_step stmt_form_step block_step block_arm_step stmt_step (layer.Match e as_)

pub stmt_form_view-Atomic : (b : Block) → stmt_form_view (made.Atomic b) ≡ StmtForm.atomic (block_view b)
stmt_form_view-Atomic b = ap stmt_form_view (sym (made.rolls-Atomic b)) ∙ fold-roll-StmtForm ElseTree StmtForm BlockTree BlockArmTree StmtTree else_step stmt_form_step block_step block_arm_step stmt_step (layer.Atomic b)

pub stmt_form_view-Assert : (e : ExprNode) → stmt_form_view (made.Assert e) ≡ StmtForm.assert (expr_view e)
stmt_form_view-Assert e = ap stmt_form_view (sym (made.rolls-Assert e)) ∙ fold-roll-StmtForm ElseTree StmtForm BlockTree BlockArmTree StmtTree else_step stmt_form_step block_step block_arm_step stmt_step (layer.Assert e)

pub stmt_form_view-Return : (e : Option ExprNode) → stmt_form_view (made.Return e) ≡ StmtForm.return (optional expr_view e)
stmt_form_view-Return e = ap stmt_form_view (sym (made.rolls-Return e)) ∙ fold-roll-StmtForm ElseTree StmtForm BlockTree BlockArmTree StmtTree else_step stmt_form_step block_step block_arm_step stmt_step (layer.Return e)

pub stmt_form_view-If : (e : ExprNode) (b : Block) (x : Option ElseNode) → stmt_form_view (made.If e b x) ≡ StmtForm.if_ (expr_view e) (block_view b) (maybe_else_view x)
stmt_form_view-If e b None = ap stmt_form_view (sym (made.rolls-If e b None)) ∙ fold-roll-StmtForm ElseTree StmtForm BlockTree BlockArmTree StmtTree else_step stmt_form_step block_step block_arm_step stmt_step (layer.StmtForm::If e b None)
stmt_form_view-If e b (Some x) = ap stmt_form_view (sym (made.rolls-If e b (Some x))) ∙ fold-roll-StmtForm ElseTree StmtForm BlockTree BlockArmTree StmtTree else_step stmt_form_step block_step block_arm_step stmt_step (layer.StmtForm::If e b (Some x))

pub else_view-Block : (b : Block) → else_view (else_made.Block b) ≡ ElseTree.else_block (block_view b)
else_view-Block b = ap else_view (sym (else_made.rolls-Block b)) ∙ fold-roll-ElseNode ElseTree StmtForm BlockTree BlockArmTree StmtTree else_step stmt_form_step block_step block_arm_step stmt_step (layer.Block b)

pub else_view-If : (x : StmtNode) → else_view (else_made.If x) ≡ ElseTree.else_if (stmt_view x)
else_view-If x = ap else_view (sym (else_made.rolls-If x)) ∙ fold-roll-ElseNode ElseTree StmtForm BlockTree BlockArmTree StmtTree else_step stmt_form_step block_step block_arm_step stmt_step (layer.ElseNode::If x)

pub ruleset stmt_views = (stmt_view-parts, block_view-parts, block_arm_view-parts, stmt_form_view-If, stmt_form_view-Var, stmt_form_view-New, stmt_form_view-Assign, stmt_form_view-Access, stmt_form_view-Match, stmt_form_view-Atomic, stmt_form_view-Assert, stmt_form_view-Return, else_view-Block, else_view-If)
