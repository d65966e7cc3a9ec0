use Rattle.std.proofs.Common.{refl}
use Rattle.type_rows.proofs.Reading.{breaks, keeps}
use Rattle.type_rows.proofs.rows.terms.Goals as goal

pub returns : goal.returns
returns c = record {
  chain_as_a_side = breaks _ _ _ _ refl;
  store_query_as_a_side = breaks _ _ _ _ refl;
  part_not_plain = breaks _ _ _ _ refl;
  query_not_plain = breaks _ _ _ _ refl;
  key_not_plain = breaks _ _ _ _ refl;
  argument_not_plain = breaks _ _ _ _ refl;
  argument_of_some = breaks _ _ _ _ refl;
  matched_not_plain = breaks _ _ _ _ refl;
  plain_terms = keeps _ refl;
}
