use Rattle.rp_grammar.specs.Spelling.{mark}
use Rattle.rp_grammar.specs.declared.terminal.Symbol.TheVariants as symbol
use Rattle.rp_lexer.proofs.Named.{here_named, others_named}
use Rattle.rp_lexer.proofs.terminals.find_symbol.Goals as goal

pub returns-then-eq : goal.returns-then-eq
returns-then-eq c =
    here_named mark c.args.items.now c.args.text.now c.loop-item.item-index symbol.OpenBrace c.symbol_text.result.now c.eq.result c.loop-item-test.true c.symbol_text.ensures
    c.eq.ensures c.if-eq.true c.loop-item.invariant

pub loop-item-preserved : goal.loop-item-preserved
loop-item-preserved c =
    others_named mark c.args.items.now c.args.text.now c.loop-item.item-index symbol.OpenBrace c.symbol_text.result.now c.eq.result c.loop-item-test.true c.symbol_text.ensures
    c.eq.ensures c.if-eq.false c.loop-item.invariant
