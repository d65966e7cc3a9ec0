use Rattle.std.proofs.Common.{◌≡◌, ◌<◌, ◌≤◌, ℕ, Some, length}
use Rattle.std.specs.List.{slice_get}
use Rattle.desugaring.specs.Tables.{atom_number}
use Rattle.text_names.specs.Declarations.{names_view}
use Rattle.text_tables.proofs.atoms.atoms_before.Given as goal

abbrev pub invariant-loop-number : goal.invariant-loop-number
invariant-loop-number l = record {
  long : length l.numbers ≡ l.number;
  are : (k : ℕ) → k < l.number → slice_get l.numbers k ≡ Some (atom_number (names_view l.names) k);
  counted : l.count ≡ atom_number (names_view l.names) l.number;
  few : l.count ≤ l.number;
}
