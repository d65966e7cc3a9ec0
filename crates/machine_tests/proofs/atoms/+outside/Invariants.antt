use Rattle.std.proofs.Common.{◌≡◌, map, drop, not}
use Rattle.std.specs.Prelude.{find}
use Rattle.rp_value.specs.ValueView.{value_view}
use Rattle.crdt_defs.specs.Fitting as spec
use Rattle.machine_tests.proofs.atoms.+outside.Given as goal

abbrev pub invariant-outside-loop-value : goal.invariant-outside-loop-value
invariant-outside-loop-value l =
    find (λ v. not (spec.is_below l.universe v)) (spec.all_atoms (map value_view (drop l.value-index l.values)))
    ≡ find (λ v. not (spec.is_below l.universe v)) (spec.all_atoms (map value_view l.values))
