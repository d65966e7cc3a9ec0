-- What a procedure over truth values has.
use Rattle.std.proofs.Common.{◌≡◌, ℕ, ◌≤◌, Bool, true, false, ◌&&◌, ◌==◌, nat_le, is_none, IsTrue, length, arith}
use Rattle.std.specs.List.{list_all}
use Rattle.rp_lang.specs.FirstForm.{is_bool, has_bool_slots, has_few_statements, are_checking, is_over_truth_values}
use Rattle.rp_lang.specs.Programs.{Proc}
use Rattle.rp_lang.specs.Sizes.{sts_count}

both : (a b : Bool) → IsTrue (a && b) → IsTrue a × IsTrue b
both true true t = (t, t)
both true false t = grind (arith, t)
both false b t = grind (arith, t)

within_test : (m n : ℕ) → IsTrue (nat_le m n) → m ≤ n
within_test m n t = grind arith

equal_test : (m n : ℕ) → IsTrue (m == n) → m ≡ n
equal_test m n t = grind arith

-- the parts of the test of a procedure
pub record IsOverTruthValues (p : Proc) : Type 0 where
  pub few_params : length p.params ≤ 8
  pub bool_params : IsTrue (list_all is_bool p.params)
  pub no_result : IsTrue (is_none p.result)
  pub as_many_slots : length p.slots ≡ length p.params
  pub bool_slots : IsTrue (list_all is_bool p.slots)
  pub few_statements : sts_count p.body ≤ 200
  pub checking : IsTrue (are_checking (length p.params) p.body)

pub proc_facts : (p : Proc) → IsTrue (is_over_truth_values p) → IsOverTruthValues p
proc_facts p fits =
    let few : Bool = nat_le (length p.params) 8 in
    let params : Bool = list_all is_bool p.params in
    let none : Bool = is_none p.result in
    let same : Bool = length p.slots == length p.params in
    let slots : Bool = list_all is_bool p.slots in
    let whole = both (has_bool_slots p && has_few_statements p.body) (are_checking (length p.params) p.body) fits in
    let head = both (has_bool_slots p) (has_few_statements p.body) whole.0 in
    let to_slots = both (few && params && none && same) slots head.0 in
    let to_same = both (few && params && none) same to_slots.0 in
    let to_none = both (few && params) none to_same.0 in
    let to_params = both few params to_none.0 in
    record {
      few_params = within_test (length p.params) 8 to_params.0;
      bool_params = to_params.1;
      no_result = to_none.1;
      as_many_slots = equal_test (length p.slots) (length p.params) to_same.1;
      bool_slots = to_slots.1;
      few_statements = within_test (sts_count p.body) 200 head.1;
      checking = whole.1;
    }
