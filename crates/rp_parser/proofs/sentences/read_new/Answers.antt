use Rattle.std.proofs.Common.{refl, ap, sym, ◌∙◌}
use Rattle.rp_span.specs.declared.Span.{Span}
use Rattle.rp_grammar.specs.declared.terminal.Symbol.TheVariants as symbol
use Rattle.rp_grammar.specs.Trees.{Ident, StmtTree, StmtForm}
use Rattle.rp_grammar.specs.Parts.{join}
use Rattle.rp_ast.specs.View.{ident_view, stmt_view}
use Rattle.rp_tokens.specs.MachineStates.{ident_span, want_symbol}
use Rattle.rp_parser.proofs.Rests.{stands_at}
use Rattle.rp_parser.proofs.sentences.read_new.Goals as goal

pub returns-clause-reads : goal.returns-clause-reads
returns-clause-reads c = λ o d h k is.
    let n = ident_view c.args.name in
    let ended = λ (m : Ident) (z : Span). k (StmtTree.node (join (ident_span n) z) (StmtForm.new n m)) in
    let m = ident_view c.name-ty.result.0 in
    stands_at c.symbol.result.1 k (StmtTree.node (join (ident_span n) c.symbol.result.0) (StmtForm.new n m)) (stmt_view c.new.result) o
    (ap (λ v. StmtTree.node v (StmtForm.new n m)) (sym c.join-span.ensures) ∙ sym c.new.ensures)
    (c.symbol.ensures.reads o d h refl (ended m) (c.name-ty.ensures.reads o d h (λ m. want_symbol symbol.Semicolon refl d (ended m)) is))
