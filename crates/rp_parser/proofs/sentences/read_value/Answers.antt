use Rattle.std.proofs.Common.{ap, sym, ◌∙◌}
use Rattle.rp_span.specs.declared.Span.{Span}
use Rattle.rp_grammar.specs.Trees.{ExprTree, StmtTree, StmtForm}
use Rattle.rp_grammar.specs.Parts.{join}
use Rattle.rp_ast.specs.View.{ident_view, expr_view, stmt_view}
use Rattle.rp_tokens.specs.MachineStates.{ident_span}
use Rattle.rp_tokens.specs.MachineStmts.{want_sentence}
use Rattle.rp_parser.specs.means.Sentences.{want_new}
use Rattle.rp_parser.proofs.Rests.{stands_at}
use Rattle.rp_parser.proofs.sentences.read_value.Goals as goal

pub returns-in-Some-clause-reads : goal.returns-in-Some-clause-reads
returns-in-Some-clause-reads c = λ o d h k is.
    let n = ident_view c.args.name in
    c.read_new.ensures.reads o d h k (c.in-Some.ensures.reads o d h (λ w. want_new d n k) (want_sentence d (λ e z. k (StmtTree.node (join (ident_span n) z) (StmtForm.assign n e)))) is)

pub returns-clause-reads : goal.returns-clause-reads
returns-clause-reads c = λ o d h k is.
    let n = ident_view c.args.name in
    let assigned = λ (e : ExprTree) (z : Span). k (StmtTree.node (join (ident_span n) z) (StmtForm.assign n e)) in
    let value = c.read_sentence-value.result in
    stands_at value.2 k (StmtTree.node (join (ident_span n) value.1) (StmtForm.assign n (expr_view value.0))) (stmt_view c.assign.result) o
    (ap (λ v. StmtTree.node v (StmtForm.assign n (expr_view value.0))) (sym c.join-span.ensures) ∙ sym c.assign.ensures)
    (c.read_sentence-value.ensures.reads o d h assigned (c.in_default.ensures.reads o d h (λ w. want_new d n k) (want_sentence d assigned) is))
