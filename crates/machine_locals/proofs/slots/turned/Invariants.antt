use Rattle.std.proofs.Common.{◌≡◌, ◌++◌, length, reverse}
use Rattle.machine_locals.proofs.slots.turned.Given as goal

abbrev pub invariant-loop-value : goal.invariant-loop-value
invariant-loop-value g l = l.others ++ reverse l.values ≡ reverse l.fn.values

abbrev pub decreases-loop-value : goal.decreases-loop-value
decreases-loop-value g l = length l.values
