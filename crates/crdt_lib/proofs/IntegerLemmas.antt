-- Integers inside a list of values.
use Rattle.std.proofs.Common.{◌≡◌, ◌&&◌, List, [], ◌∷◌, map, refl, ap}
use Rattle.std.specs.List.{list_all}
use Rattle.rp_value.specs.declared.value.Value.{Value}
use Rattle.rp_value.specs.ValueView.{value_view, values_view}
use Rattle.crdt_defs.specs.Atoms.{ints_fit, all_ints_fit}

pub ints_listed : (values : List Value) → all_ints_fit (values_view values) ≡ list_all ints_fit (map value_view values)
ints_listed [] = refl
ints_listed (value ∷ values) = ap (λ rest. ints_fit (value_view value) && rest) (ints_listed values)
