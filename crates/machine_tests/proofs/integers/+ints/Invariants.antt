use Rattle.std.proofs.Common.{◌≡◌, drop}
use Rattle.rp_value.specs.ValueView.{values_view}
use Rattle.crdt_defs.specs.Atoms as spec
use Rattle.machine_tests.proofs.integers.+ints.Given as goal

abbrev pub invariant-fields_fit-loop-value : goal.invariant-fields_fit-loop-value
invariant-fields_fit-loop-value l = spec.all_ints_fit (values_view (drop l.value-index l.values)) ≡ spec.all_ints_fit (values_view l.values)
