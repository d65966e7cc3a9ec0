-- Procedures over truth values have few parameters.
use Rattle.std.proofs.Common.{◌≡◌, ◌≤◌, ℕ, true, arith, List, [], ◌∷◌, length, map, All, IsTrue, nat_le}
use Rattle.std.specs.List.{list_all}
use Rattle.std.proofs.lemmas.Bool.{and_parts}
use Rattle.std.proofs.lemmas.Bool.Decides.{nat_tests}
use Rattle.std.proofs.lemmas.List.Elements.{All-nil, All-cons}
use Rattle.rp_lang.specs.declared.proc.ProcDecl.{ProcDecl}
use Rattle.rp_lang.specs.FirstForm.{is_over_truth_values, are_over_truth_values}
use Rattle.rp_lang.specs.Views.{proc_view}

abbrev pub HasFewParams : ProcDecl → Type 0
HasFewParams q = length q.params ≤ 8

few : (n : ℕ) → nat_le n 8 ≡ true → n ≤ 8
few n h = grind (arith, nat_tests)

few_of_proc : (q : ProcDecl) → is_over_truth_values (proc_view q) ≡ true → HasFewParams q
few_of_proc q h = few (length q.params) (and_parts _ _ (and_parts _ _ (and_parts _ _ (and_parts _ _ (and_parts _ _ (and_parts _ _ h).0).0).0).0).0).0

few_params_each : (procs : List ProcDecl) → list_all is_over_truth_values (map proc_view procs) ≡ true → All HasFewParams procs
few_params_each [] h = All-nil HasFewParams
few_params_each (q ∷ others) h =
    let both = and_parts (is_over_truth_values (proc_view q)) (list_all is_over_truth_values (map proc_view others)) h in
    All-cons HasFewParams q others (few_of_proc q both.0) (few_params_each others both.1)

pub few_params : (procs : List ProcDecl) → IsTrue (are_over_truth_values (map proc_view procs)) → All HasFewParams procs
few_params procs h = few_params_each procs (and_parts _ _ (and_parts _ _ h).0).1
