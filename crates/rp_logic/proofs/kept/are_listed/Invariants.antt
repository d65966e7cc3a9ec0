use Rattle.std.proofs.Common.{◌≡◌, drop}
use Rattle.rp_logic.specs.Signatures as spec
use Rattle.rp_logic.proofs.kept.are_listed.Given as goal

abbrev pub invariant-loop-c : goal.invariant-loop-c
invariant-loop-c l = spec.are_listed l.sorts 0 l.cons ≡ spec.are_listed l.sorts l.c (drop l.c l.cons)
