use Rattle.std.proofs.Common.{◌≡◌, take}
use Rattle.rp_symbols.specs.Numbers.{gets}
use Rattle.program_sigs.proofs.values.gets.Given as goal

abbrev pub invariant-loop-query : goal.invariant-loop-query
invariant-loop-query l = l.count ≡ gets (take l.query-index l.queries)
