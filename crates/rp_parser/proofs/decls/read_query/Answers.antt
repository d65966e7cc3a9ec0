use Rattle.std.proofs.Common.{List, refl, sym, map}
use Rattle.rp_span.specs.declared.Span.{Span}
use Rattle.rp_grammar.specs.declared.terminal.Symbol.TheVariants as symbol
use Rattle.rp_grammar.specs.Trees.{Ident, TypeTree, ParamTree, ExprTree, QueryTree, DeclForm, DeclTree}
use Rattle.rp_grammar.specs.Parts.{join}
use Rattle.rp_ast.specs.View.{ident_view, type_view, param_view, expr_view}
use Rattle.rp_tokens.specs.MachineStates.{want_symbol, want_type}
use Rattle.rp_tokens.specs.MachineTypes.{want_param_list}
use Rattle.rp_tokens.specs.MachineStmts.{want_sentence}
use Rattle.rp_parser.proofs.Rests.{stands_at}
use Rattle.rp_parser.proofs.decls.read_query.Goals as goal

pub returns-clause-reads : goal.returns-clause-reads
returns-clause-reads c = λ o k is.
    let s = c.args.start in
    let n = ident_view c.name-name.result.0 in
    let ps = map param_view c.read_param_list-params.result.0 in
    let t = type_view c.read_type-result.result.0 in
    let body = c.read_sentence-body.result in
    let ended = λ (n : Ident) (ps : List ParamTree) (t : TypeTree) (e : ExprTree) (z : Span). k (DeclTree.node (join s z) (DeclForm.query (QueryTree.query n ps t e))) in
    let bodied = λ (n : Ident) (ps : List ParamTree) (t : TypeTree). want_symbol symbol.Assign refl 0 (λ _. want_sentence 0 (ended n ps t)) in
    let typed = λ (n : Ident) (ps : List ParamTree). want_symbol symbol.Colon refl 0 (λ _. want_type 0 (bodied n ps)) in
    stands_at body.2 (λ v. k (DeclTree.node v (DeclForm.query (QueryTree.query n ps t (expr_view body.0))))) (join s body.1) c.join-span.result o (sym c.join-span.ensures)
    (c.read_sentence-body.ensures.reads o 0 refl (ended n ps t)
    (c.symbol-2.ensures.reads o 0 refl refl (λ _. want_sentence 0 (ended n ps t))
    (c.read_type-result.ensures.reads o 0 refl (bodied n ps)
    (c.symbol.ensures.reads o 0 refl refl (λ _. want_type 0 (bodied n ps))
    (c.read_param_list-params.ensures.reads o 0 refl (typed n)
    (c.name-name.ensures.reads o 0 refl (λ n. want_param_list 0 (typed n)) is))))))
