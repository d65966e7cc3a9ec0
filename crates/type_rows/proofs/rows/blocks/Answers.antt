use Rattle.std.proofs.Common.{refl}
use Rattle.type_rows.proofs.Reading.{breaks, keeps}
use Rattle.type_rows.proofs.rows.blocks.Goals as goal

pub returns : goal.returns
returns c = record {
  atomic_in_atomic = breaks _ _ _ _ refl;
  atomic_in_a_branch = breaks _ _ _ _ refl;
  atomic_after_atomic = keeps _ refl;
  no_return = breaks _ _ _ _ refl;
  return_in_atomic = breaks _ _ _ _ refl;
  return_not_last = breaks _ _ _ _ refl;
  return_with_a_value = breaks _ _ _ _ refl;
  return_without_a_value = breaks _ _ _ _ refl;
  one_way_returns = breaks _ _ _ _ refl;
  both_ways_return = keeps _ refl;
  all_arms_return = keeps _ refl;
}
