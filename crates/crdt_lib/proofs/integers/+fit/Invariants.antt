use Rattle.std.proofs.Common.{◌≡◌, drop}
use Rattle.rp_value.specs.ValueView.{values_view}
use Rattle.crdt_defs.specs.Atoms as spec
use Rattle.crdt_lib.proofs.integers.+fit.Given as goal

abbrev pub invariant-all_ints_fit-loop-value : goal.invariant-all_ints_fit-loop-value
invariant-all_ints_fit-loop-value l = spec.all_ints_fit (values_view (drop l.value-index l.values)) ≡ spec.all_ints_fit (values_view l.values)
