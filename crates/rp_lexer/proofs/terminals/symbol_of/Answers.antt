use Rattle.rp_grammar.specs.Spelling.{mark, marks}
use Rattle.rp_lexer.proofs.Spelled.{found_sized, symbol_spelled, symbol_some}
use Rattle.rp_lexer.proofs.terminals.symbol_of.Goals as goal

pub returns-clause-is : goal.returns-clause-is
returns-clause-is c = found_sized mark marks c.symbols_of_length.result.now c.args.text.now c.find_symbol.result c.find_symbol.ensures c.symbols_of_length.ensures

pub returns-clause-spelled : goal.returns-clause-spelled
returns-clause-spelled c = symbol_spelled c.args.text.now c.find_symbol.result (returns-clause-is c)

pub returns-clause-some : goal.returns-clause-some
returns-clause-some c = symbol_some c.args.text.now c.find_symbol.result (returns-clause-is c)
