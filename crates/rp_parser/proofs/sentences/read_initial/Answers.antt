use Rattle.std.proofs.Common.{refl, ap, sym, ◌∙◌, Some, None}
use Rattle.rp_span.specs.declared.Span.{Span}
use Rattle.rp_grammar.specs.declared.terminal.Symbol.TheVariants as symbol
use Rattle.rp_grammar.specs.Trees.{ExprTree, StmtTree, StmtForm}
use Rattle.rp_grammar.specs.Parts.{join}
use Rattle.rp_ast.specs.View.{ident_view, type_view, expr_view, stmt_view}
use Rattle.rp_tokens.specs.MachineStates.{want_symbol}
use Rattle.rp_tokens.specs.MachineStmts.{want_sentence}
use Rattle.rp_parser.proofs.Rests.{stands_at}
use Rattle.rp_parser.proofs.sentences.read_initial.Goals as goal

pub returns-in-Some-clause-reads : goal.returns-in-Some-clause-reads
returns-in-Some-clause-reads c = λ o d h k is.
    let s = c.args.start in
    let n = ident_view c.args.name in
    let t = type_view c.args.ty in
    let given = λ (e : ExprTree) (z : Span). k (StmtTree.node (join s z) (StmtForm.var n t (Some e))) in
    let bare = λ (z : Span). k (StmtTree.node (join s z) (StmtForm.var n t None)) in
    let value = c.read_sentence-value.result in
    stands_at value.2 k (StmtTree.node (join s value.1) (StmtForm.var n t (Some (expr_view value.0)))) (stmt_view c.var.result) o
    (ap (λ v. StmtTree.node v (StmtForm.var n t (Some (expr_view value.0)))) (sym c.join-span.ensures) ∙ sym c.var.ensures)
    (c.read_sentence-value.ensures.reads o d h given (c.in-Some.ensures.reads o d h (λ q. want_sentence d given) (want_symbol symbol.Semicolon refl d bare) is))

pub returns-clause-reads : goal.returns-clause-reads
returns-clause-reads c = λ o d h k is.
    let s = c.args.start in
    let n = ident_view c.args.name in
    let t = type_view c.args.ty in
    let given = λ (e : ExprTree) (z : Span). k (StmtTree.node (join s z) (StmtForm.var n t (Some e))) in
    let bare = λ (z : Span). k (StmtTree.node (join s z) (StmtForm.var n t None)) in
    stands_at c.symbol.result.1 k (StmtTree.node (join s c.symbol.result.0) (StmtForm.var n t None)) (stmt_view c.var-2.result) o
    (ap (λ v. StmtTree.node v (StmtForm.var n t None)) (sym c.join-span-2.ensures) ∙ sym c.var-2.ensures)
    (c.symbol.ensures.reads o d h refl bare (c.in_default.ensures.reads o d h (λ q. want_sentence d given) (want_symbol symbol.Semicolon refl d bare) is))
