-- Values that are known, and those that become known.
use Rattle.std.specs.Prelude.{◌≡◌, Bool, ◌||◌, List, ◌++◌, map}
use Rattle.std.specs.List.{list_any}
use Rattle.rp_value.specs.Values.{Val}
use Rattle.rp_value.specs.ValueView.{value_view}
use Rattle.rp_value.specs.declared.value.Value.{Value}
use Rattle.crdt_defs.specs.SameValues.{same_val}

-- x is one of the values
abbrev pub has : List Value → Val → Bool
has values x = list_any (same_val x) (map value_view values)

-- what was known stands in front
pub record Extends (old new : List Value) : Type 0 where
  pub more : List Value
  pub is : new ≡ old ++ more

-- known is what was, and these
abbrev pub Knows : List Value → List Val → List Value → Type 0
Knows old atoms new = (x : Val) → has new x ≡ (has old x || list_any (same_val x) atoms)
