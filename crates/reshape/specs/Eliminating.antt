-- The step of a pass: one determined variable is eliminated.
use Rattle.std.specs.Prelude.{zero, suc, false, Option, Some, None}
use Rattle.std.specs.Option.{option_and_then, option_map, option_or}
use Rattle.rp_logic.specs.Terms.{Tm, Var, Const, Fn, Int, Str, Con, Sel, Plus, Tms, no_tm, also_tm, Equal}
use Rattle.rp_logic.specs.Formulas.{Fm, Or, Lit, Fms, no_fm, also_fm}
use Rattle.rp_logic.specs.Dual.{dual, duals}
use Rattle.rp_logic.specs.Filling.{filled_ins, instead}
use Rattle.reshape.specs.Determining.{found}

-- the term without the innermost variable, where that doesn't stand in it
abbrev mutual
  pub lowered : Tm → Option Tm
  lowered (Var zero) = None
  lowered (Var (suc n)) = Some (Var n)
  lowered (Const c) = Some (Const c)
  lowered (Fn f args) = option_map (λ ts. Fn f ts) (lowered_each args)
  lowered (Int n) = Some (Int n)
  lowered (Str bytes) = Some (Str bytes)
  lowered (Con con args) = option_map (λ ts. Con con ts) (lowered_each args)
  lowered (Sel con i t) = option_map (λ u. Sel con i u) (lowered t)
  lowered (Plus t n) = option_map (λ u. Plus u n) (lowered t)

  pub lowered_each : Tms → Option Tms
  lowered_each no_tm = Some no_tm
  lowered_each (also_tm t ts) = option_and_then (λ u. option_map (λ us. also_tm u us) (lowered_each ts)) (lowered t)

-- what the innermost variable is where the two are equal
abbrev pub told : Tm → Tm → Option Tm
told t b = option_and_then (λ u. found b u) (lowered t)

abbrev pub told_by : Fm → Option Tm
told_by (Lit false (Equal a b)) = option_or (told a b) (told b a)
told_by _ = None

-- by the first part that tells
abbrev pub told_among : Fms → Option Tm
told_among no_fm = None
told_among (also_fm f fs) = option_or (told_by f) (told_among fs)

-- `all` of the body without its variable, where some part of the body tells it
abbrev pub eliminated : Fms → Option Fm
eliminated parts = option_map (λ w. Or (filled_ins (instead w) parts)) (told_among parts)

-- `some` of parts that all hold: by the duals
abbrev pub eliminated_some : Fms → Option Fm
eliminated_some parts = option_map dual (eliminated (duals parts))
