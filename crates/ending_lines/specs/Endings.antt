-- The lines that tell how a schedule ends.
use Rattle.std.specs.Prelude.{ℕ, ◌==◌, List, [], ◌∷◌, ◌++◌, Option, Some, None, slice_get, codes, decimal, if◌then◌else◌}
use Rattle.rp_span.specs.Places.{place_of}
use Rattle.rp_lang.specs.Programs.{Prog, Inv}
use Rattle.rp_lang.specs.Limits.{limit_text, limit_number}
use Rattle.rp_lang.specs.declared.limit.LimitName.{LimitName}
use Rattle.event_machine.specs.States.{Action, ToBegin, ToOp, ToLocal, ToNew, ToCommit, ToReturn}
use Rattle.event_machine.specs.States as seen
use Rattle.event_machine.specs.Runs.{Outcome, Clean, ViolatedAt, RefusedAt}
use Rattle.schedule_fmt.specs.Texts.{value_text}

abbrev pub action_name : Action → List ℕ
action_name ToBegin = codes "begin"
action_name ToOp = codes "op"
action_name ToLocal = codes "local"
action_name ToNew = codes "new"
action_name ToCommit = codes "commit"
action_name ToReturn = codes "return"

-- what is said of a refused step
abbrev pub why_text : Prog → seen.Why → List ℕ
why_text p (seen.NoInvocation i) = codes "no invocation " ++ decimal i
why_text p (seen.NotRunning i) = codes "not running " ++ decimal i
why_text p (seen.WrongPoint next) = codes "wrong point, next is " ++ action_name next
why_text p seen.BadArgs = codes "bad args"
why_text p (seen.UnknownId id) = codes "unknown id " ++ value_text p id
why_text p (seen.NotCommitted tx) = codes "not committed " ++ decimal tx
why_text p (seen.NotClosed tx) = codes "not closed, missing transaction " ++ decimal tx
why_text p (seen.StampUsed stamp) = codes "stamp used " ++ decimal stamp
why_text p (seen.StampLow stamp) = codes "stamp low, seen " ++ decimal stamp
why_text p (seen.NotFresh id) = codes "not fresh " ++ value_text p id
why_text p (seen.OutOfUniverse v) = codes "out of universe " ++ value_text p v

abbrev pub name_of : Option Inv → List ℕ
name_of None = []
name_of (Some inv) = inv.name

abbrev pub inv_name : Prog → ℕ → List ℕ
inv_name p inv = name_of (slice_get p.invs inv)

abbrev pub invariant_text : Prog → ℕ → List ℕ
invariant_text p inv = codes "invariant " ++ inv_name p inv

-- the line and the column at which an assertion begins
abbrev pub assertion_text : List ℕ → ℕ → List ℕ
assertion_text text at = let pos = place_of text at in codes "assertion at " ++ (decimal pos.line ++ (codes ":" ++ decimal pos.col))

abbrev pub what_text : List ℕ → Prog → seen.What → List ℕ
what_text text p (seen.Assertion at) = assertion_text text at.from
what_text text p (seen.Invariant n) = invariant_text p n

-- `s` is left out after 1 alone
abbrev pub steps_end : ℕ → List ℕ
steps_end n = if n == 1 then codes " step\n" else codes " steps\n"

abbrev pub clean_line : ℕ → List ℕ
clean_line steps = codes "clean: " ++ (decimal steps ++ steps_end steps)

abbrev pub step_line : List ℕ → ℕ → List ℕ → List ℕ
step_line head step said = head ++ (codes ": step " ++ (decimal step ++ codes " ")) ++ said ++ 10 ∷ []

-- how a schedule of the program with this text ends
abbrev pub ending_line : List ℕ → Prog → Outcome → List ℕ
ending_line text p (Clean steps) = clean_line steps
ending_line text p (ViolatedAt step what) = step_line (codes "violated") step (what_text text p what)
ending_line text p (RefusedAt step why) = step_line (codes "refused") step (why_text p why)

-- a step that meets a limit
abbrev pub limit_line : LimitName → ℕ → List ℕ
limit_line which step =
    codes "refused: limit " ++ (limit_text which ++ (codes " " ++ (decimal (limit_number which) ++ (codes " at step " ++ (decimal step ++ codes "\n")))))
