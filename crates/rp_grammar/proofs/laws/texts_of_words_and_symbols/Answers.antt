use Rattle.rp_grammar.proofs.Tables.{some_word, some_symbol, is_word, is_symbol, word_of-spelling, symbol_of-mark}
use Rattle.rp_grammar.proofs.laws.texts_of_words_and_symbols.Goals as goal

pub returns : goal.returns
returns c = record {
  words = λ bytes. (some_word bytes, λ (w, e). is_word bytes w e);
  symbols = λ bytes. (some_symbol bytes, λ (m, e). is_symbol bytes m e);
  found_word = word_of-spelling;
  found_symbol = symbol_of-mark;
}
