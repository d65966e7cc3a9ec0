use Rattle.std.proofs.Common.{refl}
use Rattle.rp_grammar.specs.declared.terminal.Symbol.TheVariants as symbol
use Rattle.rp_grammar.specs.Trees.{PatternTree}
use Rattle.rp_ast.specs.View.{pattern_view}
use Rattle.rp_tokens.specs.MachineStates.{want_symbol}
use Rattle.rp_parser.proofs.patterns.read_arm_pattern.Goals as goal

pub returns-clause-reads : goal.returns-clause-reads
returns-clause-reads c = λ o d h k is.
    let arrowed = λ (p : PatternTree). want_symbol symbol.Arrow refl d (λ _. k p) in
    c.symbol.ensures.reads o d h refl (λ _. k (pattern_view c.read_variables-pattern.result.0))
    (c.read_variables-pattern.ensures.reads o d h arrowed (c.read_constructor-con.ensures.reads o d h arrowed is))
