use Rattle.std.proofs.Common.{map, take}
use Rattle.rp_lang.specs.Views.{proc_view}
use Rattle.program_names.specs.Called.{proc_is_called}
use Rattle.program_names.specs.means.Found.{Finds}
use Rattle.program_names.proofs.tables.proc_table.Given as goal

abbrev pub invariant-loop-n : goal.invariant-loop-n
invariant-loop-n l = Finds proc_is_called (map proc_view (take l.n l.procs)) l.table
