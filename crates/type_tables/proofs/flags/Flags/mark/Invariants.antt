use Rattle.std.proofs.Common.{◌≡◌, length}
use Rattle.type_tables.specs.Flags.{flag_at}
use Rattle.type_tables.proofs.flags.Flags.mark.Given as goal

abbrev pub invariant-loop-len : goal.invariant-loop-len
invariant-loop-len l = (length l.self ≡ l._len) × (flag_at l.self ≡ flag_at l.fn.self)
