use Rattle.std.proofs.Common.{◌≡◌}
use Rattle.rp_symbols.specs.Signatures.{from}
use Rattle.program_sigs.proofs.sorts.numbers_from.Given as goal

abbrev pub invariant-loop-i : goal.invariant-loop-i
invariant-loop-i l = l.numbers ≡ from l.first l.i
