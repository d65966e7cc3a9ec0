use Rattle.std.proofs.Common.{◌≡◌, ◌++◌, drop}
use Rattle.desugaring.specs.Tables.{atoms}
use Rattle.text_names.specs.Declarations.{names_view}
use Rattle.text_tables.proofs.atoms.atom_list.Given as goal

abbrev pub invariant-loop-number : goal.invariant-loop-number
invariant-loop-number l = l.list ++ atoms (drop l.number (names_view l.names).types) ≡ atoms (names_view l.names).types
