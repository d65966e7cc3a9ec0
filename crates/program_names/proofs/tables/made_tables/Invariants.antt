use Rattle.std.proofs.Common.{take}
use Rattle.program_names.specs.means.Found.{FindsMade}
use Rattle.program_names.proofs.tables.made_tables.Given as goal

abbrev pub invariant-loop-n : goal.invariant-loop-n
invariant-loop-n l = FindsMade (take l.n l.cons) l.tables.items
