use Rattle.std.proofs.Common.{◌≡◌, ◌++◌, ◌-◌}
use Rattle.desugaring.specs.Tables.{up_from}
use Rattle.text_tables.proofs.type_table.numbers_from.Given as goal

abbrev pub invariant-loop-number : goal.invariant-loop-number
invariant-loop-number l = l.numbers ++ up_from l.number (l.end - l.number) ≡ up_from l.next (l.end - l.next)
