use Rattle.std.proofs.Common.{take}
use Rattle.program_names.specs.Called.{atom_is_called}
use Rattle.program_names.specs.means.Found.{Finds}
use Rattle.program_names.proofs.tables.atom_table.Given as goal

abbrev pub invariant-loop-n : goal.invariant-loop-n
invariant-loop-n l = Finds atom_is_called (take l.n l.atoms) l.table
