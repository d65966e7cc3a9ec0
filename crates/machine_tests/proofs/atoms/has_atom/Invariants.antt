use Rattle.std.proofs.Common.{◌≡◌, map, drop}
use Rattle.std.specs.List.{list_any}
use Rattle.rp_value.specs.Values.{Atom}
use Rattle.rp_value.specs.ValueView.{value_view}
use Rattle.crdt_defs.specs.SameValues.{same_val}
use Rattle.machine_tests.proofs.atoms.has_atom.Given as goal

abbrev pub invariant-loop-value : goal.invariant-loop-value
invariant-loop-value l =
    list_any (same_val (Atom l.of l.number)) (map value_view (drop l.value-index l.values)) ≡ list_any (same_val (Atom l.of l.number)) (map value_view l.values)
