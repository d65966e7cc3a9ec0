use Rattle.std.proofs.Common.{List, refl, sym, map}
use Rattle.rp_grammar.specs.declared.terminal.Symbol.TheVariants as symbol
use Rattle.rp_grammar.specs.Trees.{Ident, ConTree, DeclForm, DeclTree}
use Rattle.rp_grammar.specs.Parts.{join}
use Rattle.rp_ast.specs.View.{ident_view, con_view}
use Rattle.rp_tokens.specs.MachineStates.{want_symbol}
use Rattle.rp_tokens.specs.MachineDecls.{want_cons}
use Rattle.rp_parser.proofs.Rests.{stands_at}
use Rattle.rp_parser.proofs.decls.read_datatype.Goals as goal

pub returns-clause-reads : goal.returns-clause-reads
returns-clause-reads c = λ o k is.
    let s = c.args.start in
    let n = ident_view c.name-name.result.0 in
    let x = map con_view c.read_cons-cons.result.0 in
    let close = c.symbol-2.result in
    let ended = λ (n : Ident) (x : List ConTree). want_symbol symbol.Semicolon refl 0 (λ z. k (DeclTree.node (join s z) (DeclForm.datatype n x))) in
    stands_at close.1 (λ v. k (DeclTree.node v (DeclForm.datatype n x))) (join s close.0) c.join-span.result o (sym c.join-span.ensures)
    (c.symbol-2.ensures.reads o 0 refl refl (λ z. k (DeclTree.node (join s z) (DeclForm.datatype n x)))
    (c.read_cons-cons.ensures.reads o (ended n)
    (c.symbol.ensures.reads o 0 refl refl (λ _. want_cons (ended n))
    (c.name-name.ensures.reads o 0 refl (λ n. want_symbol symbol.Assign refl 0 (λ _. want_cons (ended n))) is))))
