use Rattle.std.proofs.Common.{◌≡◌, ◌++◌, Some, None, map}
use Rattle.std.specs.Prelude.{replicate}
use Rattle.machine_effects.proofs.effect.first_slots.Given as goal

abbrev pub invariant-loop-slot : goal.invariant-loop-slot
invariant-loop-slot l = l.slots ≡ map (λ v. Some v) l.args ++ replicate l._slot None
