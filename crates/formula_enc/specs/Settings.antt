-- Where formulas are meant, as definitions speak of it, of those of the code.
use Rattle.std.specs.Prelude.{List, [], ◌∷◌, map}
use Rattle.rp_logic.specs.Terms.{Var}
use Rattle.rp_logic.specs.Views.{term_view}
use Rattle.crdt_enc.specs.Places.{At}
use Rattle.crdt_enc.specs.FormulaFormulas.{Bound, Around, raised_bounds, under_fields}
use Rattle.formula_enc.specs.declared.setting.Place.{Place}
use Rattle.formula_enc.specs.declared.setting.Setting.{Setting}
use Rattle.formula_enc.specs.declared.bounds.Bounds.{Bounds}
use Rattle.formula_enc.specs.declared.bounds.Bounds.TheOpen.{Bounds-F, Closed, Quantified, Fields}
use Rattle.formula_enc.specs.declared.bounds.Bounds.TheFolds.{fold-Bounds}

abbrev pub place_view : Place → At
place_view at = record { view = at.view; calls = at.calls; invs = at.invs; results = at.results }

abbrev pub bounds_step : Bounds-F (List Bound) → List Bound
bounds_step Closed = []
bounds_step (Quantified ty outer) = record { ty = ty; term = Var 0 } ∷ raised_bounds 1 outer.now
bounds_step (Fields con tys on outer) = under_fields con 0 tys.now (term_view on.now) outer.now

-- the variables around a formula
abbrev pub bounds_view : Bounds → List Bound
bounds_view = fold-Bounds (List Bound) bounds_step

-- the terms of the slots, and the variables around
abbrev pub around_view : Setting → Bounds → Around
around_view s bounds = record { slots = map term_view s.slots.now; bounds = bounds_view bounds }

-- no variable stands around
abbrev pub closed_view : Setting → Around
closed_view s = record { slots = map term_view s.slots.now; bounds = [] }
