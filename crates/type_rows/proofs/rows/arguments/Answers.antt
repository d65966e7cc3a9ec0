use Rattle.std.proofs.Common.{refl}
use Rattle.type_rows.proofs.Reading.{breaks, keeps}
use Rattle.type_rows.proofs.rows.arguments.Goals as goal

pub returns : goal.returns
returns c = record {
  argument_of_another_type = breaks _ _ _ _ refl;
  one_too_few = breaks _ _ _ _ refl;
  query_without_parentheses = breaks _ _ _ _ refl;
  use_without_parentheses = breaks _ _ _ _ refl;
  variable_with_parentheses = breaks _ _ _ _ refl;
  constructor_with_parentheses = breaks _ _ _ _ refl;
  word_with_two = breaks _ _ _ _ refl;
  word_of_an_invocation = breaks _ _ _ _ refl;
  word_of_a_truth = breaks _ _ _ _ refl;
  before_of_both = breaks _ _ _ _ refl;
  returned_with_one = breaks _ _ _ _ refl;
  key_of_another_type = breaks _ _ _ _ refl;
  arguments_that_fit = keeps _ refl;
}
