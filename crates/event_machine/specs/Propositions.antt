-- Truth of propositional formulas: values of the slots, `false` and `true`, and connectives. Other formulas aren't true,
-- and none stands in a program over truth values.
pub use Rattle.crdt_defs.specs.Truths.{truth_val, slot_value, is_true}
use Rattle.std.specs.Prelude.{Bool, true, false, ◌&&◌, ◌||◌, not, List, Option, slice_get}
use Rattle.rp_value.specs.Values.{Val, Vals, no_val, also_val, false_val}
use Rattle.rp_value.specs.Values as values
use Rattle.rp_lang.specs.Exprs.{Ex, Exs, Slot, Con, no_ex, also_ex}
use Rattle.rp_lang.specs.Formulas.{Fo, Fos, And, Or, Not, Implies, Holds, no_fo, also_fo}

abbrev mutual
  pub value : List (Option Val) → Ex → Val
  value slots (Slot s) = slot_value (slice_get slots s)
  value slots (Con con args) = values.Con con (values_of slots args)
  value slots _ = false_val

  pub values_of : List (Option Val) → Exs → Vals
  values_of slots no_ex = no_val
  values_of slots (also_ex first rest) = also_val (value slots first) (values_of slots rest)

abbrev mutual
  pub truth : List (Option Val) → Fo → Bool
  truth slots (And parts) = all_true slots parts
  truth slots (Or parts) = any_true slots parts
  truth slots (Not f) = not (truth slots f)
  truth slots (Implies left right) = not (truth slots left) || truth slots right
  truth slots (Holds e) = is_true (value slots e)
  truth slots _ = false

  pub all_true : List (Option Val) → Fos → Bool
  all_true slots no_fo = true
  all_true slots (also_fo first rest) = truth slots first && all_true slots rest

  pub any_true : List (Option Val) → Fos → Bool
  any_true slots no_fo = false
  any_true slots (also_fo first rest) = truth slots first || any_true slots rest
