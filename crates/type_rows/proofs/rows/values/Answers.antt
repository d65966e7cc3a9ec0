use Rattle.std.proofs.Common.{refl}
use Rattle.type_rows.proofs.Reading.{breaks, keeps}
use Rattle.type_rows.proofs.rows.values.Goals as goal

pub returns : goal.returns
returns c = record {
  body_of_another_type = breaks _ _ _ _ refl;
  sum_as_a_body = breaks _ _ _ _ refl;
  body_that_fits = keeps _ refl;
  invariant_no_truth = breaks _ _ _ _ refl;
  condition_no_truth = breaks _ _ _ _ refl;
  assertion_no_truth = breaks _ _ _ _ refl;
  arm_no_truth = breaks _ _ _ _ refl;
  truths = keeps _ refl;
  assigned_another_type = breaks _ _ _ _ refl;
  initial_another_type = breaks _ _ _ _ refl;
  returned_another_type = breaks _ _ _ _ refl;
  new_another_type = breaks _ _ _ _ refl;
  values_that_fit = keeps _ refl;
}
