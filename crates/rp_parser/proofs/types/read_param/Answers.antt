use Rattle.std.proofs.Common.{refl}
use Rattle.rp_grammar.specs.declared.terminal.Symbol.TheVariants as symbol
use Rattle.rp_grammar.specs.Trees.{Ident, ParamTree}
use Rattle.rp_ast.specs.View.{ident_view}
use Rattle.rp_tokens.specs.MachineStates.{want_symbol, want_type}
use Rattle.rp_parser.proofs.types.read_param.Goals as goal

pub returns-clause-reads : goal.returns-clause-reads
returns-clause-reads c = λ o d h k is.
    let typed = λ (n : Ident). want_type d (λ t. k (ParamTree.param n t)) in
    let n = ident_view c.name-name.result.0 in
    c.read_type-ty.ensures.reads o d h (λ t. k (ParamTree.param n t))
    (c.symbol.ensures.reads o d h refl (λ _. typed n) (c.name-name.ensures.reads o d h (λ n. want_symbol symbol.Colon refl d (λ _. typed n)) is))
