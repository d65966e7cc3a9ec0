-- A variable that a literal determines.
use Rattle.std.specs.Prelude.{ℕ, zero, suc, Option, Some, None}
use Rattle.std.specs.Option.{option_or}
use Rattle.rp_logic.specs.Terms.{Tm, Var, Con, Sel, Tms, no_tm, also_tm}

-- The innermost variable as a selector term of `whole`, where `whole` equals this term, and the variable stands in the
-- term below constructors alone.
abbrev mutual
  pub found : Tm → Tm → Option Tm
  found (Var zero) whole = Some whole
  found (Con con args) whole = found_among args con 0 whole
  found _ whole = None

  pub found_among : Tms → ℕ → ℕ → Tm → Option Tm
  found_among no_tm con i whole = None
  found_among (also_tm t ts) con i whole = option_or (found t (Sel con i whole)) (found_among ts con (suc i) whole)
