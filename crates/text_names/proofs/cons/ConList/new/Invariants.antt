use Rattle.std.proofs.Common.{map, take}
use Rattle.type_tables.specs.Tables.{IsIndexOf}
use Rattle.text_names.proofs.cons.ConList.new.Given as goal

abbrev pub invariant-loop-number : goal.invariant-loop-number
invariant-loop-number l = IsIndexOf l.numbers (map (λ con. con.name.text) (take l.number l.cons))
