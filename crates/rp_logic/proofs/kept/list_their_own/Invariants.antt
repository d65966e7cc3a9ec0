use Rattle.std.proofs.Common.{◌≡◌, drop}
use Rattle.rp_logic.specs.Signatures as spec
use Rattle.rp_logic.proofs.kept.list_their_own.Given as goal

abbrev pub invariant-loop-s : goal.invariant-loop-s
invariant-loop-s l = spec.list_their_own l.cons 0 l.sorts ≡ spec.list_their_own l.cons l.s (drop l.s l.sorts)
