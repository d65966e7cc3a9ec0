use Rattle.std.proofs.Common.{refl}
use Rattle.type_rows.proofs.Reading.{breaks, keeps}
use Rattle.type_rows.proofs.rows.operands.Goals as goal

pub returns : goal.returns
returns c = record {
  not_a_number = breaks _ _ _ _ refl;
  and_a_number = breaks _ _ _ _ refl;
  number_implies = breaks _ _ _ _ refl;
  negative_number = breaks _ _ _ _ refl;
  sum_in_a_chain = breaks _ _ _ _ refl;
  plus_a_truth = breaks _ _ _ _ refl;
  order_of_truths = breaks _ _ _ _ refl;
  different_sides = breaks _ _ _ _ refl;
  quantifier_as_a_side = breaks _ _ _ _ refl;
  two_nones = breaks _ _ _ _ refl;
  none_for_a_number = breaks _ _ _ _ refl;
  number_for_a_none = breaks _ _ _ _ refl;
  some_of_a_call = breaks _ _ _ _ refl;
  some_of_another = breaks _ _ _ _ refl;
  none_in_some = breaks _ _ _ _ refl;
  none_in_an_assigned_some = breaks _ _ _ _ refl;
  none_in_a_side = breaks _ _ _ _ refl;
  none_in_an_argument = breaks _ _ _ _ refl;
  body_no_truth = breaks _ _ _ _ refl;
  nones_that_are_asked = keeps _ refl;
  operands_that_fit = keeps _ refl;
}
