use Rattle.std.proofs.Common.{◌≡◌, ◌++◌, take}
use Rattle.text_tables.proofs.type_table.with_text.Given as goal

abbrev pub invariant-loop-byte : goal.invariant-loop-byte
invariant-loop-byte l = l.text ≡ l.fn.text ++ take l.byte-index l.more
