use Rattle.std.proofs.Common.{refl}
use Rattle.type_rows.proofs.Reading.{breaks, keeps}
use Rattle.type_rows.proofs.rows.matches.Goals as goal

pub returns : goal.returns
returns c = record {
  match_of_a_number = breaks _ _ _ _ refl;
  arm_missing = breaks _ _ _ _ refl;
  arm_missing_in_an_expression = breaks _ _ _ _ refl;
  arm_twice = breaks _ _ _ _ refl;
  variable_too_many = breaks _ _ _ _ refl;
  match_of_a_none = breaks _ _ _ _ refl;
  other_arms_of_a_none = breaks _ _ _ _ refl;
  no_arm_of_a_none = breaks _ _ _ _ refl;
  constructor_of_another = breaks _ _ _ _ refl;
  root_as_a_pattern = breaks _ _ _ _ refl;
  matches_that_fit = keeps _ refl;
}
