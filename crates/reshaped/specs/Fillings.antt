-- The terms that the pass puts in place of variables.
use Rattle.std.specs.Prelude.{ℕ, zero, suc}
use Rattle.rp_logic.specs.Terms.{Tm, Var}
use Rattle.rp_logic.specs.Filling.{inside, instead, behind}
use Rattle.rp_logic.specs.Views.{term_view}
use Rattle.reshaped.specs.declared.filling.Filling.{Filling}
use Rattle.reshaped.specs.declared.filling.Filling.TheVariants.{Behind, Innermost, Instead}

-- one further out, but for the innermost
abbrev pub further : ℕ → ℕ
further zero = 0
further (suc n) = suc (suc n)

-- The n-th variable becomes the innermost, and those that stood nearer are one further out.
abbrev pub moved : ℕ → ℕ → ℕ
moved zero k = k
moved (suc n) zero = 1
moved (suc n) (suc k) = further (moved n k)

abbrev pub innermost : ℕ → ℕ → Tm
innermost n k = Var (moved n k)

abbrev pub filling_view : Filling → ℕ → Tm
filling_view Behind = behind
filling_view (Innermost n) = innermost n
filling_view (Instead w) = instead (term_view w)

-- under so many more variables
abbrev pub under : ℕ → (ℕ → Tm) → ℕ → Tm
under zero s = s
under (suc k) s = inside (under k s)
