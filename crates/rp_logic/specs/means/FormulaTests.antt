-- The sorts of a formula, tested.
use Rattle.std.specs.Prelude.{ℕ, Bool, true, ◌&&◌, nat_lt, List, ◌∷◌, length}
use Rattle.rp_logic.specs.declared.sort.NewConst.{NewConst}
use Rattle.rp_logic.specs.Formulas.{Fm, And, Or, All, Ex, Lit, Fms, no_fm, also_fm}
use Rattle.rp_logic.specs.Signatures.{Signature}
use Rattle.rp_logic.specs.SortTests.{atom_test}

abbrev mutual
  pub sort_test : Signature → List NewConst → List ℕ → Fm → Bool
  sort_test S added scope (And parts) = sort_tests S added scope parts
  sort_test S added scope (Or parts) = sort_tests S added scope parts
  sort_test S added scope (All sort body) = nat_lt sort (length S.sorts) && sort_test S added (sort ∷ scope) body
  sort_test S added scope (Ex sort body) = nat_lt sort (length S.sorts) && sort_test S added (sort ∷ scope) body
  sort_test S added scope (Lit sign atom) = atom_test S added scope atom

  pub sort_tests : Signature → List NewConst → List ℕ → Fms → Bool
  sort_tests S added scope no_fm = true
  sort_tests S added scope (also_fm f fs) = sort_test S added scope f && sort_tests S added scope fs
