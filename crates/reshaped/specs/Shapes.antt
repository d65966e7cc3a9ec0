-- The shape that a search wants: disjunctions as clauses, and no variable that a literal determines.
use Rattle.std.specs.Prelude.{ℕ, suc, Bool, true, false, ◌||◌, if◌then◌else◌, Option}
use Rattle.std.specs.Option.{option_map, unwrap_or}
use Rattle.rp_logic.specs.Formulas.{Fm, Fms, And, Or, All, Ex, Lit, no_fm, also_fm}
use Rattle.rp_logic.specs.Dual.{dual, duals}
use Rattle.rp_logic.specs.Filling.{filled_in, filled_ins}
use Rattle.reshape.specs.Eliminating.{eliminated}
use Rattle.reshaped.specs.Clauses.{clause}
use Rattle.reshaped.specs.Fillings.{innermost}

-- The body without its n-th variable, which an `all` binds, where some part tells it. Between the two stand `all`s alone, so
-- that it may change places with each.
abbrev pub without : ℕ → Fm → Option Fm
without n (All s f) = option_map (λ g. All s g) (without (suc n) f)
without n (Or parts) = eliminated (filled_ins (innermost n) parts)
without n (And parts) = eliminated (also_fm (filled_in (innermost n) (And parts)) no_fm)
without n (Ex s f) = eliminated (also_fm (filled_in (innermost n) (Ex s f)) no_fm)
without n (Lit sign atom) = eliminated (also_fm (filled_in (innermost n) (Lit sign atom)) no_fm)

-- `all` of the body, or where its variable is told the body without it
abbrev pub universal : ℕ → Fm → Fm
universal s f = unwrap_or (without 0 f) (All s f)

-- Each disjunction a clause, each told variable gone; conjunctions and `some` by their duals.
abbrev mutual
  pub shaped : Fm → Fm
  shaped (And parts) = dual (clause (duals (shaped_each parts)))
  shaped (Or parts) = clause (shaped_each parts)
  shaped (All s f) = universal s (shaped f)
  shaped (Ex s f) = dual (universal s (dual (shaped f)))
  shaped (Lit sign atom) = Lit sign atom

  pub shaped_each : Fms → Fms
  shaped_each no_fm = no_fm
  shaped_each (also_fm f fs) = also_fm (shaped f) (shaped_each fs)

abbrev mutual
  pub is_quantified : Fm → Bool
  is_quantified (And parts) = are_quantified parts
  is_quantified (Or parts) = are_quantified parts
  is_quantified (All s f) = true
  is_quantified (Ex s f) = true
  is_quantified (Lit sign atom) = false

  -- one of them is
  pub are_quantified : Fms → Bool
  are_quantified no_fm = false
  are_quantified (also_fm f fs) = is_quantified f || are_quantified fs

-- A formula without quantifiers is left as it is.
abbrev pub reshaped : Fm → Fm
reshaped f = if is_quantified f then shaped f else f
