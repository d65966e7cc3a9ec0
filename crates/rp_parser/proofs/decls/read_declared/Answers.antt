use Rattle.std.proofs.Common.{refl, sym}
use Rattle.rp_span.specs.declared.Span.{Span}
use Rattle.rp_grammar.specs.declared.terminal.Symbol.TheVariants as symbol
use Rattle.rp_grammar.specs.Trees.{Ident, DeclTree}
use Rattle.rp_grammar.specs.Parts.{join}
use Rattle.rp_ast.specs.View.{ident_view}
use Rattle.rp_tokens.specs.MachineStates.{want_symbol}
use Rattle.rp_parser.proofs.Rests.{stands_at}
use Rattle.rp_parser.proofs.decls.read_declared.Goals as goal

pub returns-clause-reads : goal.returns-clause-reads
returns-clause-reads c = λ o f k is.
    let n = ident_view c.name-name.result.0 in
    let close = c.symbol.result in
    let ended = λ (n : Ident) (z : Span). k (DeclTree.node (join c.args.start z) (f n)) in
    stands_at close.1 (λ v. k (DeclTree.node v (f n))) (join c.args.start close.0) c.join.result o (sym c.join.ensures)
    (c.symbol.ensures.reads o 0 refl refl (ended n) (c.name-name.ensures.reads o 0 refl (λ n. want_symbol symbol.Semicolon refl 0 (ended n)) is))
