use Rattle.std.proofs.Common.{◌≡◌, ◌++◌, drop}
use Rattle.rp_value.specs.ValueView.{values_view}
use Rattle.crdt_defs.specs.Atoms as spec
use Rattle.crdt_lib.proofs.atoms.+collect.Given as goal

abbrev pub invariant-add_all_atoms-loop-value : goal.invariant-add_all_atoms-loop-value
invariant-add_all_atoms-loop-value l =
    l.atoms.items ++ spec.all_atoms_in l.ty (values_view (drop l.value-index l.values)) ≡ l.initial.atoms.items ++ spec.all_atoms_in l.ty (values_view l.values)
