-- The grammar's trees of the trees that the code has. Nothing is lost, spans neither.
use Rattle.std.specs.Prelude.{List, map, Option, Some, None}
use Rattle.rp_ast.specs.declared.ident.Ident as code_ident
use Rattle.rp_ast.specs.declared.ty.TypeNode.{TypeNode}
use Rattle.rp_ast.specs.declared.ty.TypeForm as code_type
use Rattle.rp_ast.specs.declared.ty.TypeForm.TheOpen as ty
use Rattle.rp_ast.specs.declared.ty.TypeForm.TheFolds.{fold-TypeForm, fold-TypeNode}
use Rattle.rp_ast.specs.declared.ty.Param.{Param}
use Rattle.rp_ast.specs.declared.crdt.CrdtNode.{CrdtNode}
use Rattle.rp_ast.specs.declared.crdt.FieldNode.{FieldNode}
use Rattle.rp_ast.specs.declared.crdt.CrdtForm as code_crdt
use Rattle.rp_ast.specs.declared.crdt.CrdtForm.TheOpen as crdt
use Rattle.rp_ast.specs.declared.crdt.CrdtForm.TheFolds.{fold-CrdtForm, fold-CrdtNode, fold-FieldNode}
use Rattle.rp_ast.specs.declared.expr.PatternNode.{PatternNode}
use Rattle.rp_ast.specs.declared.expr.ExprNode.{ExprNode}
use Rattle.rp_ast.specs.declared.expr.ExprArm.{ExprArm}
use Rattle.rp_ast.specs.declared.expr.AccessNode.{AccessNode}
use Rattle.rp_ast.specs.declared.expr.AccessStep.{AccessStep}
use Rattle.rp_ast.specs.declared.expr.ExprForm as code_expr
use Rattle.rp_ast.specs.declared.expr.AccessStep.TheOpen as expr
use Rattle.rp_ast.specs.declared.expr.AccessStep.TheFolds.{fold-AccessStep, fold-ExprForm, fold-AccessNode, fold-ExprArm, fold-ExprNode}
use Rattle.rp_ast.specs.declared.stmt.Block.{Block}
use Rattle.rp_ast.specs.declared.stmt.BlockArm.{BlockArm}
use Rattle.rp_ast.specs.declared.stmt.ElseNode.{ElseNode}
use Rattle.rp_ast.specs.declared.stmt.StmtNode.{StmtNode}
use Rattle.rp_ast.specs.declared.stmt.StmtForm as code_stmt
use Rattle.rp_ast.specs.declared.stmt.ElseNode.TheOpen as stmt
use Rattle.rp_ast.specs.declared.stmt.ElseNode.TheFolds.{fold-ElseNode, fold-StmtForm, fold-Block, fold-BlockArm, fold-StmtNode}
use Rattle.rp_ast.specs.declared.decl.Ast.{Ast}
use Rattle.rp_ast.specs.declared.decl.Decl.{Decl}
use Rattle.rp_ast.specs.declared.decl.ConNode.{ConNode}
use Rattle.rp_ast.specs.declared.decl.QueryNode.{QueryNode}
use Rattle.rp_ast.specs.declared.decl.ProcNode.{ProcNode}
use Rattle.rp_ast.specs.declared.decl.DeclForm as code_decl
use Rattle.rp_ast.specs.declared.decl.DeclForm.TheVariants as decl
use Rattle.rp_grammar.specs.Trees.{Ident, ident, TypeTree, TypeForm, ParamTree, CrdtTree, CrdtForm, FieldTree, FieldTrees, fields, PatternTree}
use Rattle.rp_grammar.specs.Trees.{ExprTree, ExprForm, ExprTrees, exprs, ExprArmTree, ExprArmTrees, expr_arms, AccessTree, StepTree, StepTrees, steps, ArgTrees}
use Rattle.rp_grammar.specs.Trees.{BlockTree, StmtTree, StmtForm, StmtTrees, stmts, ElseTree, BlockArmTree, BlockArmTrees, block_arms}
use Rattle.rp_grammar.specs.Trees.{ConTree, QueryTree, ProcTree, DeclForm, DeclTree}

abbrev pub optional : {X Y : Type 0} → (X → Y) → Option X → Option Y
optional f None = None
optional f (Some x) = Some (f x)

abbrev pub ident_view : code_ident.Ident → Ident
ident_view n = ident n.text n.span

abbrev pub idents_view : List code_ident.Ident → List Ident
idents_view ns = map ident_view ns

-- # Types

abbrev pub type_form_step : ty.TypeForm-F TypeForm TypeTree → TypeForm
type_form_step (ty.Named n) = TypeForm.named n
type_form_step ty.Bool = TypeForm.bool
type_form_step ty.Int = TypeForm.int
type_form_step ty.Text = TypeForm.text
type_form_step (ty.Maybe t) = TypeForm.maybe t
type_form_step ty.Call = TypeForm.call
type_form_step ty.Invocation = TypeForm.invocation

abbrev pub type_step : ty.TypeNode-F TypeForm TypeTree → TypeTree
type_step t = TypeTree.node t.span t.what

abbrev pub type_form_view : code_type.TypeForm → TypeForm
type_form_view = fold-TypeForm TypeForm TypeTree type_form_step type_step

abbrev pub type_view : TypeNode → TypeTree
type_view = fold-TypeNode TypeForm TypeTree type_form_step type_step

abbrev pub param_view : Param → ParamTree
param_view p = ParamTree.param (ident_view p.name) (type_view p.ty)

abbrev pub params_view : List Param → List ParamTree
params_view ps = map param_view ps

-- # Replicated types

abbrev pub crdt_form_step : crdt.CrdtForm-F CrdtForm CrdtTree FieldTree → CrdtForm
crdt_form_step (crdt.SetAw t) = CrdtForm.set_aw (type_view t)
crdt_form_step (crdt.SetRw t) = CrdtForm.set_rw (type_view t)
crdt_form_step (crdt.Reg t) = CrdtForm.reg (type_view t)
crdt_form_step (crdt.MvReg t) = CrdtForm.mv_reg (type_view t)
crdt_form_step crdt.Counter = CrdtForm.counter
crdt_form_step (crdt.MapUw t c) = CrdtForm.map_uw (type_view t) c
crdt_form_step (crdt.MapDw t c) = CrdtForm.map_dw (type_view t) c
crdt_form_step (crdt.Struct fs) = CrdtForm.struct (fields fs)

abbrev pub crdt_step : crdt.CrdtNode-F CrdtForm CrdtTree FieldTree → CrdtTree
crdt_step c = CrdtTree.node c.span c.what

abbrev pub field_step : crdt.FieldNode-F CrdtForm CrdtTree FieldTree → FieldTree
field_step f = FieldTree.field (ident_view f.name) f.crdt

abbrev pub crdt_form_view : code_crdt.CrdtForm → CrdtForm
crdt_form_view = fold-CrdtForm CrdtForm CrdtTree FieldTree crdt_form_step crdt_step field_step

abbrev pub crdt_view : CrdtNode → CrdtTree
crdt_view = fold-CrdtNode CrdtForm CrdtTree FieldTree crdt_form_step crdt_step field_step

abbrev pub field_view : FieldNode → FieldTree
field_view = fold-FieldNode CrdtForm CrdtTree FieldTree crdt_form_step crdt_step field_step

abbrev pub fields_view : List FieldNode → FieldTrees
fields_view fs = fields (map field_view fs)

-- # Expressions

abbrev pub pattern_view : PatternNode → PatternTree
pattern_view p = PatternTree.pattern (ident_view p.con) (idents_view p.vars)

abbrev pub arguments : Option (List ExprTree) → ArgTrees
arguments None = ArgTrees.absent
arguments (Some es) = ArgTrees.given (exprs es)

abbrev pub step_step : expr.AccessStep-F StepTree ExprForm AccessTree ExprArmTree ExprTree → StepTree
step_step (expr.Dot n) = StepTree.dot (ident_view n)
step_step (expr.Returned s) = StepTree.returned s
step_step (expr.Key e) = StepTree.key e

abbrev pub expr_form_step : expr.ExprForm-F StepTree ExprForm AccessTree ExprArmTree ExprTree → ExprForm
expr_form_step (expr.Implies a b) = ExprForm.implies a b
expr_form_step (expr.Or es) = ExprForm.or (exprs es)
expr_form_step (expr.And es) = ExprForm.and (exprs es)
expr_form_step (expr.Not e) = ExprForm.not e
expr_form_step (expr.Forall p e) = ExprForm.forall (param_view p) e
expr_form_step (expr.Exists p e) = ExprForm.exists (param_view p) e
expr_form_step (expr.Compare c a b) = ExprForm.compare c a b
expr_form_step (expr.Plus a b) = ExprForm.plus a b
expr_form_step (expr.Minus a b) = ExprForm.minus a b
expr_form_step (expr.Int n) = ExprForm.int n
expr_form_step (expr.Str bytes) = ExprForm.str bytes
expr_form_step (expr.Truth b) = ExprForm.truth b
expr_form_step expr.NoneWord = ExprForm.none_word
expr_form_step (expr.SomeOf e) = ExprForm.some_of e
expr_form_step expr.Unreturned = ExprForm.unreturned
expr_form_step expr.Tx = ExprForm.tx
expr_form_step (expr.Call w es) = ExprForm.call w (exprs es)
expr_form_step (expr.Match e as_) = ExprForm.match e (expr_arms as_)
expr_form_step (expr.Access a) = ExprForm.access a

abbrev pub access_step : expr.AccessNode-F StepTree ExprForm AccessTree ExprArmTree ExprTree → AccessTree
access_step a = AccessTree.path (ident_view a.root) (steps a.steps) (arguments a.args)

abbrev pub expr_arm_step : expr.ExprArm-F StepTree ExprForm AccessTree ExprArmTree ExprTree → ExprArmTree
expr_arm_step a = ExprArmTree.arm (pattern_view a.pattern) a.body

abbrev pub expr_step : expr.ExprNode-F StepTree ExprForm AccessTree ExprArmTree ExprTree → ExprTree
expr_step e = ExprTree.node e.span e.what

abbrev pub step_view : AccessStep → StepTree
step_view = fold-AccessStep StepTree ExprForm AccessTree ExprArmTree ExprTree step_step expr_form_step access_step expr_arm_step expr_step

abbrev pub expr_form_view : code_expr.ExprForm → ExprForm
expr_form_view = fold-ExprForm StepTree ExprForm AccessTree ExprArmTree ExprTree step_step expr_form_step access_step expr_arm_step expr_step

abbrev pub access_view : AccessNode → AccessTree
access_view = fold-AccessNode StepTree ExprForm AccessTree ExprArmTree ExprTree step_step expr_form_step access_step expr_arm_step expr_step

abbrev pub expr_arm_view : ExprArm → ExprArmTree
expr_arm_view = fold-ExprArm StepTree ExprForm AccessTree ExprArmTree ExprTree step_step expr_form_step access_step expr_arm_step expr_step

abbrev pub expr_view : ExprNode → ExprTree
expr_view = fold-ExprNode StepTree ExprForm AccessTree ExprArmTree ExprTree step_step expr_form_step access_step expr_arm_step expr_step

abbrev pub steps_view : List AccessStep → StepTrees
steps_view xs = steps (map step_view xs)

abbrev pub exprs_view : List ExprNode → ExprTrees
exprs_view es = exprs (map expr_view es)

abbrev pub expr_arms_view : List ExprArm → ExprArmTrees
expr_arms_view as_ = expr_arms (map expr_arm_view as_)

abbrev pub args_view : Option (List ExprNode) → ArgTrees
args_view None = ArgTrees.absent
args_view (Some es) = ArgTrees.given (exprs_view es)

-- # Statements

abbrev pub else_of : Option ElseTree → ElseTree
else_of None = ElseTree.no_else
else_of (Some x) = x

abbrev pub else_step : stmt.ElseNode-F ElseTree StmtForm BlockTree BlockArmTree StmtTree → ElseTree
else_step (stmt.Block b) = ElseTree.else_block b
else_step (stmt.ElseNode::If x) = ElseTree.else_if x

abbrev pub stmt_form_step : stmt.StmtForm-F ElseTree StmtForm BlockTree BlockArmTree StmtTree → StmtForm
stmt_form_step (stmt.Var n t e) = StmtForm.var (ident_view n) (type_view t) (optional expr_view e)
stmt_form_step (stmt.New n t) = StmtForm.new (ident_view n) (ident_view t)
stmt_form_step (stmt.Assign n e) = StmtForm.assign (ident_view n) (expr_view e)
stmt_form_step (stmt.Access a) = StmtForm.access (access_view a)
stmt_form_step (stmt.StmtForm::If e b x) = StmtForm.if_ (expr_view e) b (else_of x)
stmt_form_step (stmt.Match e as_) = StmtForm.match (expr_view e) (block_arms as_)
stmt_form_step (stmt.Atomic b) = StmtForm.atomic b
stmt_form_step (stmt.Assert e) = StmtForm.assert (expr_view e)
stmt_form_step (stmt.Return e) = StmtForm.return (optional expr_view e)

abbrev pub block_step : stmt.Block-F ElseTree StmtForm BlockTree BlockArmTree StmtTree → BlockTree
block_step b = BlockTree.block b.span (stmts b.stmts)

abbrev pub block_arm_step : stmt.BlockArm-F ElseTree StmtForm BlockTree BlockArmTree StmtTree → BlockArmTree
block_arm_step a = BlockArmTree.arm (pattern_view a.pattern) a.body

abbrev pub stmt_step : stmt.StmtNode-F ElseTree StmtForm BlockTree BlockArmTree StmtTree → StmtTree
stmt_step s = StmtTree.node s.span s.what

abbrev pub else_view : ElseNode → ElseTree
else_view = fold-ElseNode ElseTree StmtForm BlockTree BlockArmTree StmtTree else_step stmt_form_step block_step block_arm_step stmt_step

abbrev pub stmt_form_view : code_stmt.StmtForm → StmtForm
stmt_form_view = fold-StmtForm ElseTree StmtForm BlockTree BlockArmTree StmtTree else_step stmt_form_step block_step block_arm_step stmt_step

abbrev pub block_view : Block → BlockTree
block_view = fold-Block ElseTree StmtForm BlockTree BlockArmTree StmtTree else_step stmt_form_step block_step block_arm_step stmt_step

abbrev pub block_arm_view : BlockArm → BlockArmTree
block_arm_view = fold-BlockArm ElseTree StmtForm BlockTree BlockArmTree StmtTree else_step stmt_form_step block_step block_arm_step stmt_step

abbrev pub stmt_view : StmtNode → StmtTree
stmt_view = fold-StmtNode ElseTree StmtForm BlockTree BlockArmTree StmtTree else_step stmt_form_step block_step block_arm_step stmt_step

abbrev pub stmts_view : List StmtNode → StmtTrees
stmts_view ss = stmts (map stmt_view ss)

abbrev pub block_arms_view : List BlockArm → BlockArmTrees
block_arms_view as_ = block_arms (map block_arm_view as_)

abbrev pub maybe_else_view : Option ElseNode → ElseTree
maybe_else_view None = ElseTree.no_else
maybe_else_view (Some x) = else_view x

-- # Declarations

abbrev pub con_view : ConNode → ConTree
con_view c = ConTree.con (ident_view c.name) (params_view c.fields)

abbrev pub query_view : QueryNode → QueryTree
query_view q = QueryTree.query (ident_view q.name) (params_view q.params) (type_view q.result) (expr_view q.body)

abbrev pub proc_view : ProcNode → ProcTree
proc_view p = ProcTree.proc (ident_view p.name) (params_view p.params) (optional type_view p.result) (block_view p.body)

abbrev pub decl_form_view : code_decl.DeclForm → DeclForm
decl_form_view (decl.IdType n) = DeclForm.id_type (ident_view n)
decl_form_view (decl.Opaque n) = DeclForm.opaque (ident_view n)
decl_form_view (decl.Datatype n cs) = DeclForm.datatype (ident_view n) (map con_view cs)
decl_form_view (decl.Crdt n c) = DeclForm.crdt (ident_view n) (crdt_view c)
decl_form_view (decl.Query q) = DeclForm.query (query_view q)
decl_form_view (decl.Invariant n e) = DeclForm.invariant (optional ident_view n) (expr_view e)
decl_form_view (decl.Proc p) = DeclForm.proc (proc_view p)

abbrev pub decl_view : Decl → DeclTree
decl_view d = DeclTree.node d.span (decl_form_view d.what)

abbrev pub decls_view : List Decl → List DeclTree
decls_view ds = map decl_view ds

abbrev pub ast_view : Ast → List DeclTree
ast_view a = decls_view a.decls
