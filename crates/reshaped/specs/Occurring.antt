-- Whether the innermost variable stands in a term.
use Rattle.std.specs.Prelude.{zero, suc, Bool, true, false, ◌||◌}
use Rattle.rp_logic.specs.Terms.{Tm, Var, Const, Fn, Int, Str, Con, Sel, Plus, Tms, no_tm, also_tm}

abbrev mutual
  pub stands : Tm → Bool
  stands (Var zero) = true
  stands (Var (suc n)) = false
  stands (Const c) = false
  stands (Fn f args) = stands_among args
  stands (Int n) = false
  stands (Str bytes) = false
  stands (Con con args) = stands_among args
  stands (Sel con i t) = stands t
  stands (Plus t n) = stands t

  -- in one of them
  pub stands_among : Tms → Bool
  stands_among no_tm = false
  stands_among (also_tm t ts) = stands t || stands_among ts
