use Rattle.std.proofs.Common.{refl}
use Rattle.type_rows.proofs.Reading.{breaks, keeps}
use Rattle.type_rows.proofs.rows.uses.Goals as goal

pub returns : goal.returns
returns c = record {
  query_after_its_use = breaks _ _ _ _ refl;
  query_in_itself = breaks _ _ _ _ refl;
  query_after_its_procedure = breaks _ _ _ _ refl;
  others_after_their_use = keeps _ refl;
  name_nowhere = breaks _ _ _ _ refl;
  use_of_nothing = breaks _ _ _ _ refl;
  assigned_nowhere = breaks _ _ _ _ refl;
  statement_of_nothing = breaks _ _ _ _ refl;
  pattern_of_nothing = breaks _ _ _ _ refl;
  out_of_its_block = breaks _ _ _ _ refl;
  unknown_operand = breaks _ _ _ _ refl;
  none_beside_unknown = breaks _ _ _ _ refl;
  some_of_unknown = breaks _ _ _ _ refl;
  new_of_opaque = breaks _ _ _ _ refl;
  new_of_id = keeps _ refl;
}
