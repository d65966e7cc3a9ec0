-- Values that are put into slots.
use Rattle.std.specs.Prelude.{ℕ, List, ◌∷◌, Option, Some, slice_set}
use Rattle.rp_value.specs.declared.value.Value.{Value}

-- the values are in these slots, the first in the first
abbrev pub filled : List ℕ → List Value → List (Option Value) → List (Option Value)
filled (slot ∷ more) (v ∷ vs) slots = filled more vs (slice_set slots slot (Some v))
filled _ _ slots = slots
