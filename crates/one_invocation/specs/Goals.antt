-- The goals of a program, as sentences about valid states and one step of one invocation, and when one is met.
use Rattle.std.specs.Prelude.{◌≡◌, ℕ, suc, ◌≤◌, Bool, true, false, List, [], ◌∷◌, ◌++◌, Option, Some, None}
use Rattle.rp_span.specs.declared.Span.{Span}
use Rattle.rp_value.specs.Values.{Val}
use Rattle.rp_lang.specs.Exprs.{Ex}
use Rattle.rp_lang.specs.Formulas.{Fo}
use Rattle.rp_lang.specs.Programs.{Proc, Inv, Prog}
use Rattle.rp_lang.specs.declared.goal.GoalName.{GoalName}
use Rattle.rp_lang.specs.declared.goal.GoalKind.TheVariants as kind
use Rattle.crdt_defs.specs.Histories.{before}
use Rattle.crdt_defs.specs.Snapshots.{IsSnapshot}
use Rattle.crdt_defs.specs.Truths.{truth}
use Rattle.event_machine.specs.Code as left
use Rattle.event_machine.specs.Code.{Code, CodeArms, no_code, also_code, proc_code}
use Rattle.event_machine.specs.Machine as machine
use Rattle.event_machine.specs.Machine.{Invocation, State, empty, at_snapshot, at_invocation, step}
use Rattle.event_machine.specs.Runs.{Leads}
use Rattle.event_machine.specs.WellFormed.{commits_of}
use Rattle.event_machine.specs.Growth.{IsValid}
use Rattle.event_machine.specs.LocalSafety.{HoldsAt}
use Rattle.event_machine.specs.OldCalls.{old, old_part}
use Rattle.one_invocation.specs.Trails.{Way, Put, Decide, New, Operate, Take, TakeArm, Begin, End, Done, path_of, choices, last_mark}
use Rattle.one_invocation.specs.CameAlong.{CameAlong}

-- What is to be shown: an invariant, by its number, in the empty state and after an invocation, a commit and a return; and
-- an assertion where it stands. `proc` is the procedure's number, `at` the place in the text.
pub data Goal : Type 0 where
  ToInit : (k : ℕ) (claim : Inv) → Goal
  ToInvoke : (proc : ℕ) (at : Span) (k : ℕ) (claim : Inv) → Goal
  ToAssert : (proc : ℕ) (path : List Way) (at : Span) (claim : Fo) → Goal
  ToCommit : (proc : ℕ) (path : List Way) (at : Span) (k : ℕ) (claim : Inv) → Goal
  ToReturn : (proc : ℕ) (path : List Way) (at : Span) (result : Option Ex) (k : ℕ) (claim : Inv) → Goal

-- # The goals of a program, in their order

-- a goal for each invariant from number k on
abbrev pub for_each : (ℕ → Inv → Goal) → ℕ → List Inv → List Goal
for_each goal k [] = []
for_each goal k (inv ∷ others) = goal k inv ∷ for_each goal (suc k) others

-- those of what is left behind a path, depth first, the first branch first
abbrev mutual
  pub goals_from : List Inv → ℕ → List Way → Code → List Goal
  goals_from invs proc path (left.Put slot e next) = goals_from invs proc (Put slot e ∷ path) next
  goals_from invs proc path (left.Decide slot f next) = goals_from invs proc (Decide slot f ∷ path) next
  goals_from invs proc path (left.New slot ty next) = goals_from invs proc (New slot ty ∷ path) next
  goals_from invs proc path (left.Operate op args next) = goals_from invs proc (Operate op args ∷ path) next
  goals_from invs proc path (left.Assert at f next) = ToAssert proc path at f ∷ goals_from invs proc path next
  goals_from invs proc path (left.Choose f then_ else_) =
      goals_from invs proc (Take f true ∷ path) then_ ++ goals_from invs proc (Take f false ∷ path) else_
  goals_from invs proc path (left.Match on arms) = arm_goals invs proc path on 1 arms
  goals_from invs proc path (left.Begin next) = goals_from invs proc (Begin ∷ path) next
  goals_from invs proc path (left.End at next) = for_each (ToCommit proc path at) 0 invs ++ goals_from invs proc (End ∷ path) next
  goals_from invs proc path (left.Return at result) = for_each (ToReturn proc path at result) 0 invs

  pub arm_goals : List Inv → ℕ → List Way → Ex → ℕ → CodeArms → List Goal
  arm_goals invs proc path on arm no_code = []
  arm_goals invs proc path on arm (also_code con slots body others) =
      goals_from invs proc (TakeArm on arm con slots ∷ path) body ++ arm_goals invs proc path on (suc arm) others

abbrev pub proc_goals : List Inv → ℕ → List Proc → List Goal
proc_goals invs n [] = []
proc_goals invs n (q ∷ others) =
    for_each (ToInvoke n q.at) 0 invs ++ (goals_from invs n [] (proc_code q) ++ proc_goals invs (suc n) others)

abbrev pub goals : Prog → List Goal
goals p = for_each ToInit 0 p.invs ++ proc_goals p.invs 0 p.procs

-- what a goal is called
abbrev pub name_of : Goal → GoalName
name_of (ToInit k claim) = record { kind = kind.Init; proc = None; path = []; at = claim.at; inv = Some k }
name_of (ToInvoke proc at k claim) = record { kind = kind.Invoke; proc = Some proc; path = []; at = at; inv = Some k }
name_of (ToAssert proc path at claim) = record { kind = kind.Assert; proc = Some proc; path = choices path; at = at; inv = None }
name_of (ToCommit proc path at k claim) =
    record { kind = kind.Commit; proc = Some proc; path = choices path; at = at; inv = Some k }
name_of (ToReturn proc path at result k claim) =
    record { kind = kind.Return; proc = Some proc; path = choices path; at = at; inv = Some k }

-- # When a goal is met

-- the invariants hold at what the last begin sees, where there was one
abbrev pub HoldsAtMark : Prog → State → Option ℕ → Type 0
HoldsAtMark p s None = Unit {0}
HoldsAtMark p s (Some mark) = HoldsAt p s (λ c. before s.calls c mark)

-- The formula is true at each consistent snapshot after the step at whose old part the invariants held before it.
abbrev pub Claim : Prog → State → State → Fo → Type 0
Claim p s new f =
    (seen : ℕ → Bool) → IsSnapshot new.calls (commits_of new.txs) seen → HoldsAt p s (old_part s seen)
    → truth (at_snapshot p new seen) [] f ≡ true

-- In a valid state invocation i has come along this path of its procedure, and the invariants hold at what is committed and
-- at what its last begin sees.
pub record Stands (p : Prog) (s : State) (i : ℕ) (q : Proc) (inv : Invocation) (trail : List Done) (proc : ℕ) (path : List Way) : Type 0 where
  pub valid : IsValid p s
  pub came : CameAlong p s i q inv trail
  pub proc_is : inv.proc ≡ proc
  pub along : path_of trail ≡ path
  pub at_mark : HoldsAtMark p s (last_mark trail)
  pub at_old : HoldsAt p s (old s)

-- One sentence for each kind of goal.
abbrev pub IsMet : Prog → Goal → Type 0
-- in the empty state of each universe the invariant is true
IsMet p (ToInit k claim) =
    (universe : ℕ) (seen : ℕ → Bool) → 1 ≤ universe → IsSnapshot [] [] seen
    → truth (at_snapshot p (empty universe) seen) [] claim.body ≡ true
-- each accepted invocation of the procedure keeps it
IsMet p (ToInvoke proc at k claim) =
    (s : State) (args : List Val) (new : State)
    → IsValid p s → HoldsAt p s (old s) → Leads s (step p s (machine.Invoke proc args)) new → Claim p s new claim.body
-- whoever has come along the path finds the assertion true
IsMet p (ToAssert proc path at claim) =
    (s : State) (i : ℕ) (q : Proc) (inv : Invocation) (trail : List Done)
    → Stands p s i q inv trail proc path → truth (at_invocation p s inv) [] claim ≡ true
-- each commit behind the path keeps the invariant
IsMet p (ToCommit proc path at k claim) =
    (s : State) (i : ℕ) (q : Proc) (inv : Invocation) (trail : List Done) (next : Code) (new : State)
    → Stands p s i q inv trail proc path → inv.left ≡ left.End at next → Leads s (step p s (machine.Commit i)) new
    → Claim p s new claim.body
-- each return behind the path keeps it
IsMet p (ToReturn proc path at result k claim) =
    (s : State) (i : ℕ) (q : Proc) (inv : Invocation) (trail : List Done) (new : State)
    → Stands p s i q inv trail proc path → inv.left ≡ left.Return at result → Leads s (step p s (machine.Return i)) new
    → Claim p s new claim.body
