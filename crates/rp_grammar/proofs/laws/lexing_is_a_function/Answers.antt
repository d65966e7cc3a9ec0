use Rattle.rp_grammar.proofs.Unique as unique
use Rattle.rp_grammar.proofs.Moving.{answer}
use Rattle.rp_grammar.proofs.laws.lexing_is_a_function.Goals as goal

pub returns : goal.returns
returns c = record {
  one_list = λ p bytes ts us a b. unique.one_lexing a b;
  one_fault = λ p i j bytes f g a b. unique.one_fault a b;
  not_both = λ p i bytes ts f a b. unique.not_both a b;
  some = answer;
}
