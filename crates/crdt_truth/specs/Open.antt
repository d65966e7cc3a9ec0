-- The values of open variables that definitions speak of, of those of the code.
use Rattle.std.specs.Prelude.{List, [], ◌∷◌}
use Rattle.rp_value.specs.Values.{Val}
use Rattle.rp_value.specs.ValueView.{value_view, values_view}
use Rattle.crdt_defs.specs.Truths.{bind}
use Rattle.crdt_truth.specs.declared.binders.Binders.{Binders}
use Rattle.crdt_truth.specs.declared.binders.Binders.TheOpen.{Binders-F, Closed, One, Fields}
use Rattle.crdt_truth.specs.declared.binders.Binders.TheFolds.{fold-Binders}

abbrev pub binders_step : Binders-F (List Val) → List Val
binders_step Closed = []
binders_step (One value outer) = value_view value.now ∷ outer.now
binders_step (Fields fields outer) = bind (values_view fields.now) outer.now

abbrev pub binders_view : Binders → List Val
binders_view = fold-Binders (List Val) binders_step
