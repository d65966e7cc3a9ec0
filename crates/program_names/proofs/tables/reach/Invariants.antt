use Rattle.std.proofs.Common.{ℕ, ◌≡◌, ◌+◌, ◌-◌, length}
use Rattle.program_names.specs.means.Found.{table_of}
use Rattle.program_names.proofs.tables.reach.Given as goal

abbrev pub invariant-loop-alloc : goal.invariant-loop-alloc
invariant-loop-alloc l = (d : ℕ) → table_of l.tables.items d ≡ table_of l.initial.tables.items d

abbrev pub decreases-loop-alloc : goal.decreases-loop-alloc
decreases-loop-alloc l = l.number + 1 - length l.tables.items
