use Rattle.rp_grammar.specs.Spelling.{spelling, words}
use Rattle.rp_lexer.proofs.Spelled.{found_sized, word_spelled, word_some}
use Rattle.rp_lexer.proofs.terminals.word_of.Goals as goal

pub returns-clause-is : goal.returns-clause-is
returns-clause-is c = found_sized spelling words c.words_of_length.result.now c.args.text.now c.find_word.result c.find_word.ensures c.words_of_length.ensures

pub returns-clause-spelled : goal.returns-clause-spelled
returns-clause-spelled c = word_spelled c.args.text.now c.find_word.result (returns-clause-is c)

pub returns-clause-some : goal.returns-clause-some
returns-clause-some c = word_some c.args.text.now c.find_word.result (returns-clause-is c)
