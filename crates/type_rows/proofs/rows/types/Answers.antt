use Rattle.std.proofs.Common.{refl}
use Rattle.type_rows.proofs.Reading.{breaks, keeps}
use Rattle.type_rows.proofs.rows.types.Goals as goal

pub returns : goal.returns
returns c = record {
  call_parameter = breaks _ _ _ _ refl;
  invocation_element = breaks _ _ _ _ refl;
  maybe_call = breaks _ _ _ _ refl;
  call_result = breaks _ _ _ _ refl;
  calls_in_queries = keeps _ refl;
  maybe_call_element = breaks _ _ _ _ refl;
  maybe_invocation_field = breaks _ _ _ _ refl;
  data_elements = keeps _ refl;
  over_integers = breaks _ _ _ _ refl;
  over_a_datatype = breaks _ _ _ _ refl;
  over_maybe_calls = breaks _ _ _ _ refl;
  over_ranges = keeps _ refl;
  maybe_call_parameter = breaks _ _ _ _ refl;
  maybe_invocation_result = breaks _ _ _ _ refl;
  maybe_call_variable = breaks _ _ _ _ refl;
  data_variables = keeps _ refl;
}
