use Rattle.std.proofs.Common.{List, refl, ap, sym, [], map}
use Rattle.rp_grammar.specs.declared.terminal.Symbol.TheVariants as symbol
use Rattle.rp_grammar.specs.Trees.{Ident, ParamTree, ConTree}
use Rattle.rp_ast.specs.View.{ident_view, param_view}
use Rattle.rp_tokens.specs.MachineStates.{if_symbol, want_symbol}
use Rattle.rp_tokens.specs.MachineTypes.{want_params}
use Rattle.rp_parser.proofs.Rests.{stands_at}
use Rattle.rp_parser.proofs.decls.read_con.Goals as goal

pub returns-in_default-clause-reads : goal.returns-in_default-clause-reads
returns-in_default-clause-reads c = λ o k is.
    let n = ident_view c.name-name.result.0 in
    let closed = λ (n : Ident) (ps : List ParamTree). want_symbol symbol.CloseParen refl 0 (λ _. k (ConTree.con n ps)) in
    let named = c.name-name.ensures.reads o 0 refl (λ n. if_symbol symbol.OpenParen 0 (λ _. want_params 1 (closed n)) (k (ConTree.con n []))) is in
    stands_at c.name-name.result.1 (λ ps. k (ConTree.con n ps)) [] (map param_view c.new-fields.result) o (sym (ap (map param_view) c.new-fields.ensures))
    (c.in_default.ensures.reads o 0 refl (λ _. want_params 1 (closed n)) (k (ConTree.con n [])) named)

pub returns-clause-reads : goal.returns-clause-reads
returns-clause-reads c = λ o k is.
    let n = ident_view c.name-name.result.0 in
    let closed = λ (n : Ident) (ps : List ParamTree). want_symbol symbol.CloseParen refl 0 (λ _. k (ConTree.con n ps)) in
    let named = c.name-name.ensures.reads o 0 refl (λ n. if_symbol symbol.OpenParen 0 (λ _. want_params 1 (closed n)) (k (ConTree.con n []))) is in
    c.symbol.ensures.reads o 0 refl refl (λ _. k (ConTree.con n (map param_view c.read_params-fields.result.0)))
    (c.read_params-fields.ensures.reads o 1 refl (closed n) (c.in-Some.ensures.reads o 0 refl (λ _. want_params 1 (closed n)) (k (ConTree.con n [])) named))
