use Rattle.std.proofs.Common.{ap, sym, ◌∙◌}
use Rattle.rp_grammar.specs.Trees.{StmtTree, StmtForm}
use Rattle.rp_grammar.specs.Parts.{join}
use Rattle.rp_ast.specs.View.{expr_view, stmt_view}
use Rattle.rp_parser.proofs.Rests.{stands_at}
use Rattle.rp_parser.proofs.stmts.read_assert.Goals as goal

pub returns-clause-reads : goal.returns-clause-reads
returns-clause-reads c = λ o d h k is.
    let condition = c.read_sentence-condition.result in
    stands_at condition.2 k (StmtTree.node (join c.args.start condition.1) (StmtForm.assert (expr_view condition.0))) (stmt_view c.assert_.result) o
    (ap (λ v. StmtTree.node v (StmtForm.assert (expr_view condition.0))) (sym c.join-span.ensures) ∙ sym c.assert_.ensures)
    (c.read_sentence-condition.ensures.reads o d h (λ e z. k (StmtTree.node (join c.args.start z) (StmtForm.assert e))) is)
