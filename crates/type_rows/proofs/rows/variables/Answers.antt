use Rattle.std.proofs.Common.{refl}
use Rattle.type_rows.proofs.Reading.{breaks, keeps}
use Rattle.type_rows.proofs.rows.variables.Goals as goal

pub returns : goal.returns
returns c = record {
  assigned_too_early = breaks _ _ _ _ refl;
  read_too_early = breaks _ _ _ _ refl;
  name_in_sight = breaks _ _ _ _ refl;
  name_of_a_root = breaks _ _ _ _ refl;
  name_of_a_procedure = breaks _ _ _ _ refl;
  name_of_a_query = breaks _ _ _ _ refl;
  quantified_twice = breaks _ _ _ _ refl;
  assigned_root = breaks _ _ _ _ refl;
  name_of_a_constructor = keeps _ refl;
  names_in_two_blocks = keeps _ refl;
  read_without_a_value = breaks _ _ _ _ refl;
  read_in_its_own_value = breaks _ _ _ _ refl;
  value_on_one_way = breaks _ _ _ _ refl;
  value_in_one_arm = breaks _ _ _ _ refl;
  value_on_both_ways = keeps _ refl;
  other_way_returns = keeps _ refl;
  no_way_goes_on = keeps _ refl;
  assigned_parameter = breaks _ _ _ _ refl;
  assigned_pattern_variable = breaks _ _ _ _ refl;
  assigned_variable = keeps _ refl;
}
