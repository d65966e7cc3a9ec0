use Rattle.std.proofs.Common.{◌≡◌, Option, None, Some, refl, ap, sym, subst, ◌∙◌}
use Rattle.rp_span.specs.declared.Span.{Span}
use Rattle.rp_grammar.specs.Trees.{StmtForm, StmtTree}
use Rattle.rp_ast.specs.declared.expr.ExprNode.{ExprNode}
use Rattle.rp_ast.specs.View.{expr_view, optional}
use Rattle.rp_lang.specs.Stmts.{Return}
use Rattle.rp_lang.specs.Views.{stmts_view}
use Rattle.rp_lang.proofs.StmtViews.{kind_view-Return, stmt_view-what}
use Rattle.desugaring.specs.Statements.{Made, just}
use Rattle.lower_procs.specs.Writing.{Adds, Writes, stmt_in}
use Rattle.lower_procs.proofs.Noted.{noted_none}
use Rattle.lower_procs.proofs.Rows.{pushed}
use Rattle.lower_procs.proofs.Simple.{returned_adds}
use Rattle.lower_procs.proofs.writer.Writer.leave.Goals as goal

pub returns-in_ok-push-in-None-clause-writes : goal.returns-in_ok-push-in-None-clause-writes
returns-in_ok-push-in-None-clause-writes c =
    let w = c.args.self.now in
    subst (λ (o : Option ExprNode). Writes w (stmt_in w c.args.frame (StmtTree.node c.args.at (StmtForm.return (optional expr_view o))))
    w.maker.reader (stmts_view c.args.out.now) w (stmts_view c.push.new.self)) (sym c.in-None.is)
    (λ ready m h.
    let same : just (Return c.args.at) ≡ m = cc in
    subst (λ (y : Made). Adds w y w.maker.reader (stmts_view c.args.out.now) w (stmts_view c.push.new.self)) same
    (returned_adds c.args.at (Return c.args.at) (λ test none. refl)
    (pushed c.args.out.now c.push.new.self _ _ c.in_ok-push-in-None.ensures.ok (stmt_view-what _ ∙ kind_view-Return _))))
