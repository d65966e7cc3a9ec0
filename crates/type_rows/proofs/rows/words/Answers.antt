use Rattle.std.proofs.Common.{refl}
use Rattle.type_rows.proofs.Reading.{breaks, keeps}
use Rattle.type_rows.proofs.rows.words.Goals as goal

pub returns : goal.returns
returns c = record {
  quantifier_in_a_procedure = breaks _ _ _ _ refl;
  later_variable = breaks _ _ _ _ refl;
  word_in_a_procedure = breaks _ _ _ _ refl;
  returned_in_a_procedure = breaks _ _ _ _ refl;
  query_of_a_procedure = breaks _ _ _ _ refl;
  through_a_query = breaks _ _ _ _ refl;
  queries_of_invariants = keeps _ refl;
  query_of_nobody = keeps _ refl;
}
