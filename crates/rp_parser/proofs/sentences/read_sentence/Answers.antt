use Rattle.std.proofs.Common.{refl}
use Rattle.rp_grammar.specs.declared.terminal.Symbol.TheVariants as symbol
use Rattle.rp_grammar.specs.Parts.{tree_of}
use Rattle.rp_ast.specs.View.{expr_view}
use Rattle.rp_tokens.specs.MachineStates.{want_symbol}
use Rattle.rp_parser.proofs.sentences.read_sentence.Goals as goal

pub returns-clause-reads : goal.returns-clause-reads
returns-clause-reads c = λ o d h k is.
    c.symbol.ensures.reads o d h refl (λ z. k (expr_view c.read_expr-value.result.0) z)
    (c.read_expr-value.ensures.reads o d h (λ e. want_symbol symbol.Semicolon refl d (λ z. k (tree_of e) z)) is)
