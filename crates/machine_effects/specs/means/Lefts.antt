-- What is left of an invocation, by the kind of its next action.
use Rattle.std.specs.Prelude.{ℕ, Option, Some, None}
use Rattle.rp_lang.specs.Exprs.{Ex, Exs}
use Rattle.event_machine.specs.Code as left
use Rattle.event_machine.specs.Code.{Code}

-- behind the beginning of an atomic block
abbrev pub begun : Code → Option Code
begun (left.Begin next) = Some next
begun _ = None

-- behind its end
abbrev pub ended : Code → Option Code
ended (left.End at next) = Some next
ended _ = None

-- the slot of a new identifier, and what is behind
abbrev pub new : Code → Option (ℕ × Code)
new (left.New slot of next) = Some (slot, next)
new _ = None

-- an operation, its arguments, and what is behind
abbrev pub operation : Code → Option (ℕ × Exs × Code)
operation (left.Operate op args next) = Some (op, args, next)
operation _ = None

-- the expression whose value is returned
abbrev pub result : Code → Option Ex
result (left.Return at found) = found
result _ = None
