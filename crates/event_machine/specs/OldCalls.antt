-- The calls that a state has committed: to what comes later they are the old ones.
use Rattle.std.specs.Prelude.{ℕ, Bool, true, false, ◌&&◌}
use Rattle.crdt_defs.specs.Parts.{is_committed}
use Rattle.event_machine.specs.Machine.{State, plain, Label, Begin, Op, Local, New, Fail}

-- the committed calls
abbrev pub old : State → ℕ → Bool
old s c = is_committed (plain s) c

-- those of a set that are committed
abbrev pub old_part : State → (ℕ → Bool) → ℕ → Bool
old_part s set c = set c && old s c

-- the label of one invocation neither commits nor returns
abbrev pub is_quiet : Label → Bool
is_quiet (Begin i stamp sees) = true
is_quiet (Op i stamp) = true
is_quiet (Local i) = true
is_quiet (New i id) = true
is_quiet (Fail i) = true
is_quiet _ = false
