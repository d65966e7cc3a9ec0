use Rattle.std.proofs.Common.{refl, sym}
use Rattle.rp_grammar.specs.declared.terminal.Symbol.TheVariants as symbol
use Rattle.rp_grammar.specs.Trees.{Ident, CrdtTree, DeclForm, DeclTree}
use Rattle.rp_grammar.specs.Parts.{join}
use Rattle.rp_ast.specs.View.{ident_view, crdt_view}
use Rattle.rp_tokens.specs.MachineStates.{want_symbol, want_crdt}
use Rattle.rp_parser.proofs.Rests.{stands_at}
use Rattle.rp_parser.proofs.decls.read_crdt_decl.Goals as goal

pub returns-clause-reads : goal.returns-clause-reads
returns-clause-reads c = λ o k is.
    let s = c.args.start in
    let n = ident_view c.name-name.result.0 in
    let x = crdt_view c.read_crdt-crdt.result.0 in
    let close = c.symbol-2.result in
    let ended = λ (n : Ident) (x : CrdtTree). want_symbol symbol.Semicolon refl 0 (λ z. k (DeclTree.node (join s z) (DeclForm.crdt n x))) in
    stands_at close.1 (λ v. k (DeclTree.node v (DeclForm.crdt n x))) (join s close.0) c.join-span.result o (sym c.join-span.ensures)
    (c.symbol-2.ensures.reads o 0 refl refl (λ z. k (DeclTree.node (join s z) (DeclForm.crdt n x)))
    (c.read_crdt-crdt.ensures.reads o 0 refl (ended n)
    (c.symbol.ensures.reads o 0 refl refl (λ _. want_crdt 0 (ended n))
    (c.name-name.ensures.reads o 0 refl (λ n. want_symbol symbol.Colon refl 0 (λ _. want_crdt 0 (ended n))) is))))
