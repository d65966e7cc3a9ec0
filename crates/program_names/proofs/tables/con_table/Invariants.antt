use Rattle.std.proofs.Common.{take}
use Rattle.program_names.specs.Called.{con_is_called}
use Rattle.program_names.specs.means.Found.{Finds}
use Rattle.program_names.proofs.tables.con_table.Given as goal

abbrev pub invariant-loop-n : goal.invariant-loop-n
invariant-loop-n l = Finds con_is_called (take l.n l.cons) l.table
