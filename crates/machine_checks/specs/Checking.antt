-- What a check answers.
use Rattle.std.specs.Prelude.{ℕ, Option, Some, None}
use Rattle.event_machine.specs.States.{Answer, Checked, Violated, Invariant}

-- the number of the first invariant that is false, if there is one
abbrev pub answer_of : Option ℕ → Answer
answer_of None = Checked
answer_of (Some n) = Violated (Invariant n)
