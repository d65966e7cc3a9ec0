use Rattle.std.proofs.Common.{◌≡◌, Option, None, Some, OnOk, length, ap, sym, subst, ◌∙◌}
use Rattle.rp_grammar.specs.Trees.{StmtForm, StmtTree}
use Rattle.rp_ast.specs.declared.expr.ExprNode.{ExprNode}
use Rattle.rp_ast.specs.View.{expr_view, ident_view, optional, type_view}
use Rattle.rp_lang.specs.Views.{stmts_view}
use Rattle.type_rules.specs.Kinds.{kind_of}
use Rattle.reading.proofs.Declared.{on_ok}
use Rattle.lower_procs.specs.Writing.{ArePast, Writes, behind, sight_in, stmt_in}
use Rattle.lower_procs.proofs.Variables.{Declared, var_adds, var_alone, var_past}
use Rattle.lower_procs.proofs.writer.Writer.var.Goals as goal

pub returns-in-Some-clause-writes : goal.returns-in-Some-clause-writes
returns-in-Some-clause-writes c =
    let w = c.args.self.now in
    let x = ident_view c.args.name.now in
    let ty = type_view c.args.ty.now in
    let is : c.in_ok-kind.kind ≡ kind_of (sight_in w).tables.names ty = c.in_ok-kind.ensures ∙ ap (λ n. kind_of n ty) c.names.ensures in
    let d : Declared w x c.in_ok-kind.kind c.declare.new.self = record { slots = c.in_ok-_slot.ensures.slots; maker = c.in_ok-_slot.ensures.maker } in
    on_ok c.assign.result
    (λ writes. subst (λ (o : Option ExprNode). Writes w (stmt_in w c.args.frame (StmtTree.node c.args.at (StmtForm.var x ty (optional expr_view o))))
    (behind (length w.slots) w.maker.reader (StmtTree.node c.args.at (StmtForm.var x ty (optional expr_view o)))) (stmts_view c.args.out.now) c.assign.new.self
    (stmts_view c.assign.new.out)) (sym c.in-Some.is)
    (λ ready m h. var_adds c.args.frame c.args.at ty (expr_view c.in-Some.value) m ready d is writes h))
    c.assign.ensures.writes

pub returns-in-Some-clause-nodes : goal.returns-in-Some-clause-nodes
returns-in-Some-clause-nodes c err =
    let w = c.args.self.now in
    let x = ident_view c.args.name.now in
    let ty = type_view c.args.ty.now in
    let is : c.in_ok-kind.kind ≡ kind_of (sight_in w).tables.names ty = c.in_ok-kind.ensures ∙ ap (λ n. kind_of n ty) c.names.ensures in
    let d : Declared w x c.in_ok-kind.kind c.declare.new.self = record { slots = c.in_ok-_slot.ensures.slots; maker = c.in_ok-_slot.ensures.maker } in
    subst (λ (o : Option ExprNode). ArePast w (stmt_in w c.args.frame (StmtTree.node c.args.at (StmtForm.var x ty (optional expr_view o)))))
    (sym c.in-Some.is) (var_past c.args.frame c.args.at ty (expr_view c.in-Some.value) d is (c.assign.ensures.nodes err))

pub returns-in-None-clause-writes : goal.returns-in-None-clause-writes
returns-in-None-clause-writes c =
    let w = c.args.self.now in
    let x = ident_view c.args.name.now in
    let ty = type_view c.args.ty.now in
    let is : c.in_ok-kind.kind ≡ kind_of (sight_in w).tables.names ty = c.in_ok-kind.ensures ∙ ap (λ n. kind_of n ty) c.names.ensures in
    let d : Declared w x c.in_ok-kind.kind c.declare.new.self = record { slots = c.in_ok-_slot.ensures.slots; maker = c.in_ok-_slot.ensures.maker } in
    subst (λ (o : Option ExprNode). Writes w (stmt_in w c.args.frame (StmtTree.node c.args.at (StmtForm.var x ty (optional expr_view o))))
    (behind (length w.slots) w.maker.reader (StmtTree.node c.args.at (StmtForm.var x ty (optional expr_view o)))) (stmts_view c.args.out.now) c.declare.new.self
    (stmts_view c.args.out.now)) (sym c.in-None.is)
    (λ ready m h. var_alone c.args.frame c.args.at ty m d is h)
