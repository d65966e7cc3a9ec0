-- What a verdict says of a program.
use Rattle.std.specs.Prelude.{◌≡◌, ◌≢◌, ℕ, ◌+◌, ◌≤◌, ◌<◌, if◌then◌else◌, List, [], ◌∷◌, ◌++◌, length, take, All, Some, None, slice_get}
use Rattle.rp_lang.specs.declared.goal.GoalName.{GoalName}
use Rattle.rp_lang.specs.declared.goal.GoalKind.TheVariants as kind
use Rattle.rp_lang.specs.Programs.{Proc, Prog}
use Rattle.event_machine.specs.Checks.{Done, stmts_checks, paths}
use Rattle.event_machine.specs.Runs.{IsSafe}
use Rattle.event_machine.specs.Goals.{Goal, goals, path}
use Rattle.event_machine.specs.Tests.{is_false}
use Rattle.rp_verify.specs.declared.verdict.Unproved.{Unproved}
use Rattle.rp_verify.specs.declared.verdict.Verdict.{Verdict}
use Rattle.rp_verify.specs.declared.verdict.Verdict.TheVariants.{Verified, Unproved as Listed}
use Rattle.rp_verify.specs.declared.verdict.GoalErr.{GoalErr}
use Rattle.rp_verify.specs.declared.verdict.GoalErr.TheVariants.{Paths, Goals, Memory}

-- the name of a goal: its procedure, the path to its assertion and where that stands
abbrev pub name_of : Goal → GoalName
name_of goal = record { kind = kind.Assert; proc = Some goal.proc; path = path goal; at = goal.at; inv = None }

-- the false ones of goals that are numbered from `next` on
abbrev pub unproved_from : ℕ → List Goal → List Unproved
unproved_from next [] = []
unproved_from next (goal ∷ others) =
    (if is_false goal then record { goal = next; name = name_of goal } ∷ [] else []) ++ unproved_from (next + 1) others

-- the false goals of a program, with their numbers from 1
abbrev pub unproved : Prog → List Unproved
unproved p = unproved_from 1 (goals p)

-- the paths of a procedure
abbrev pub proc_paths : Proc → ℕ
proc_paths q = paths (stmts_checks q.body Done)

abbrev pub HasFewPaths : Proc → Type 0
HasFewPaths q = proc_paths q ≤ 1024

-- no procedure has too many paths, and the goals aren't too many
pub record IsWithinLimits (p : Prog) : Type 0 where
  pub few_paths : All HasFewPaths p.procs
  pub few_goals : length (goals p) ≤ 2048

-- Verified: no goal is false, and the program is safe. Unproved: the list has the false goals, of which there are some.
abbrev pub Says : Prog → Verdict → Type 0
Says p (Verified n) = record { counted : n ≡ length (goals p); none : unproved p ≡ []; safe : IsSafe p }
Says p (Listed n list) = record { counted : n ≡ length (goals p); exact : list ≡ unproved p; some : unproved p ≢ [] }

-- the procedure of that number is the first with too many paths
pub record IsFirstPast (procs : List Proc) (n : ℕ) : Type 0 where
  pub before : All HasFewPaths (take n procs)
  pub past : (q : Proc) × (slice_get procs n ≡ Some q) × (1024 < proc_paths q)

-- which limit the program passes; want of memory says nothing of it
abbrev pub IsPast : Prog → GoalErr → Type 0
IsPast p (Paths n) = IsFirstPast p.procs n
IsPast p Goals = All HasFewPaths p.procs × (2048 < length (goals p))
IsPast p Memory = Unit {0}
