use Rattle.std.proofs.Common.{refl}
use Rattle.type_rows.proofs.Reading.{breaks, keeps}
use Rattle.type_rows.proofs.rows.paths.Goals as goal

pub returns : goal.returns
returns c = record {
  no_such_member = breaks _ _ _ _ refl;
  ends_too_early = breaks _ _ _ _ refl;
  key_of_a_struct = breaks _ _ _ _ refl;
  path_from_a_variable = breaks _ _ _ _ refl;
  beyond_a_query = breaks _ _ _ _ refl;
  returned_of_a_root = breaks _ _ _ _ refl;
  paths_that_fit = keeps _ refl;
  operation_alone = breaks _ _ _ _ refl;
  tx_alone = breaks _ _ _ _ refl;
  procedure_as_a_statement = breaks _ _ _ _ refl;
  query_as_a_statement = breaks _ _ _ _ refl;
  variable_as_a_statement = breaks _ _ _ _ refl;
  unreturned_alone = breaks _ _ _ _ refl;
  beside_their_words = keeps _ refl;
}
