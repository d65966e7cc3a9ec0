use Rattle.std.proofs.Common.{ap, sym, ◌∙◌, Some, None}
use Rattle.rp_span.specs.declared.Span.{Span}
use Rattle.rp_grammar.specs.Trees.{ExprTree, StmtTree, StmtForm}
use Rattle.rp_grammar.specs.Parts.{join}
use Rattle.rp_ast.specs.View.{expr_view, stmt_view}
use Rattle.rp_tokens.specs.MachineStmts.{want_sentence}
use Rattle.rp_tokens.specs.Machine.{bounded}
use Rattle.rp_parser.specs.means.Marks.{toks}
use Rattle.rp_parser.proofs.Rests.{stands_at}
use Rattle.rp_parser.proofs.sentences.read_return.Goals as goal

pub returns-in-Some-clause-reads : goal.returns-in-Some-clause-reads
returns-in-Some-clause-reads c = λ o d h k is.
    let s = c.args.start in
    let bare = λ (z : Span). k (StmtTree.node (join s z) (StmtForm.return None)) in
    let given = λ (e : ExprTree) (z : Span). k (StmtTree.node (join s z) (StmtForm.return (Some e))) in
    c.in-Some.ensures.reads o d h bare (want_sentence d given) is
    ∙ ap (λ x. bounded 64 (k x) (toks c.in-Some.end.now)) (ap (λ v. StmtTree.node v (StmtForm.return None)) (sym c.join-span.ensures) ∙ sym c.return_.ensures)

pub returns-clause-reads : goal.returns-clause-reads
returns-clause-reads c = λ o d h k is.
    let s = c.args.start in
    let bare = λ (z : Span). k (StmtTree.node (join s z) (StmtForm.return None)) in
    let given = λ (e : ExprTree) (z : Span). k (StmtTree.node (join s z) (StmtForm.return (Some e))) in
    let value = c.read_sentence-value.result in
    stands_at value.2 k (StmtTree.node (join s value.1) (StmtForm.return (Some (expr_view value.0)))) (stmt_view c.return_-2.result) o
    (ap (λ v. StmtTree.node v (StmtForm.return (Some (expr_view value.0)))) (sym c.join-span-2.ensures) ∙ sym c.return_-2.ensures)
    (c.read_sentence-value.ensures.reads o d h given (c.in_default.ensures.reads o d h bare (want_sentence d given) is))
