use Rattle.std.proofs.Common.{◌≡◌, drop}
use Rattle.type_tables.specs.Tables.{place_from}
use Rattle.type_tables.specs.Variables.{known_names}
use Rattle.type_tables.proofs.vars.first_place.Given as goal

abbrev pub invariant-loop-item : goal.invariant-loop-item
invariant-loop-item l =
    (l.place ≡ l.item-index)
    × (place_from 0 (known_names l.items) l.name ≡ place_from l.place (known_names (drop l.item-index l.items)) l.name)
