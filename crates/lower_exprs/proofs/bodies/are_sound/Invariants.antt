use Rattle.std.proofs.Common.{ℕ, ◌<◌}
use Rattle.std.specs.Prelude.{IsTrue}
use Rattle.lower_exprs.specs.Sound.{is_sound_at}
use Rattle.lower_exprs.proofs.bodies.are_sound.Given as goal

abbrev pub invariant-loop-decl : goal.invariant-loop-decl
invariant-loop-decl l = (d : ℕ) → d < l.decl → IsTrue (is_sound_at l.cons l.bodies d)
