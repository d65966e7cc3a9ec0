use Rattle.std.proofs.Common.{refl}
use Rattle.type_rows.proofs.Reading.{breaks, keeps}
use Rattle.type_rows.proofs.rows.names.Goals as goal

pub returns : goal.returns
returns c = record {
  same_types = breaks _ _ _ _ refl;
  root_and_query = breaks _ _ _ _ refl;
  constructor_and_procedure = breaks _ _ _ _ refl;
  same_constructors = breaks _ _ _ _ refl;
  same_invariants = breaks _ _ _ _ refl;
  same_parameters = breaks _ _ _ _ refl;
  same_fields = breaks _ _ _ _ refl;
  same_struct_fields = breaks _ _ _ _ refl;
  first_of_two = breaks _ _ _ _ refl;
  names_of_different_kinds = keeps _ refl;
  invariants_without_names = keeps _ refl;
  type_after_its_use = breaks _ _ _ _ refl;
  type_in_itself = breaks _ _ _ _ refl;
  type_nowhere = breaks _ _ _ _ refl;
  new_before_its_type = breaks _ _ _ _ refl;
  types_before_their_use = keeps _ refl;
}
