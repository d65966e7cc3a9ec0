use Rattle.std.proofs.Common.{◌≡◌, Some, map, take}
use Rattle.machine_effects.proofs.effect.filled.Given as goal

abbrev pub invariant-loop-arg : goal.invariant-loop-arg
invariant-loop-arg l = l.slots ≡ map (λ v. Some v) (take l.arg-index l.args)
