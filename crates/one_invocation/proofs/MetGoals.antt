-- Where all goals of a program are met, those of each place are, and claims give the invariants.
use Rattle.std.proofs.Common.{◌≡◌, ℕ, zero, suc, ◌+◌, true, false, List, [], ◌∷◌, ◌++◌, All, refl, sym, subst, arith}
use Rattle.std.proofs.lemmas.Option.{none-some, same_Some}
use Rattle.std.proofs.lemmas.List.Elements.{All-head, All-tail}
use Rattle.rp_lang.specs.Exprs.{Ex}
use Rattle.rp_lang.specs.Programs.{Proc, Inv, Prog}
use Rattle.crdt_defs.specs.Calls.{Call}
use Rattle.event_machine.specs.Code.{Code, CodeArms, proc_code}
use Rattle.event_machine.specs.Machine.{Invocation, State}
use Rattle.event_machine.specs.WellFormed.{At}
use Rattle.event_machine.specs.Growth.{IsValid}
use Rattle.event_machine.specs.LocalSafety.{HoldsAll}
use Rattle.event_machine.specs.OldCalls.{old_part}
use Rattle.event_machine.proofs.ListLemmas.{All-left, All-right}
use Rattle.event_machine.proofs.ViewLemmas.{closed-snapshot, snapshot-closed}
use Rattle.event_machine.proofs.SnapshotLemmas.{part-closed}
use Rattle.one_invocation.specs.Trails.{Way, Take, TakeArm, Done, path_of}
use Rattle.one_invocation.specs.Trails as trails
use Rattle.one_invocation.specs.Places.{IsArm, first_arm, later_arm, Leaves, at_start, past_put, past_decide, past_new, past_operate, past_assert, past_then, past_else, past_arm, past_begin, past_end}
use Rattle.one_invocation.specs.CameAlong.{start_of}
use Rattle.one_invocation.specs.Goals.{Goal, ToInit, ToInvoke, ToAssert, ToCommit, for_each, goals_from, arm_goals, proc_goals, goals, Claim, Stands, IsMet}
use Rattle.one_invocation.proofs.MarkHolds.{hold-old, hold-mark}
use Rattle.one_invocation.proofs.TrailSteps.{IsOn}

-- those of one kind are met for each invariant, whatever its number
pub met-each : (p : Prog) (goal : ℕ → Inv → Goal) (first : ℕ) (invs : List Inv) → All (IsMet p) (for_each goal first invs)
    → (n : ℕ) (inv : Inv) → At invs n inv → (k : ℕ) × IsMet p (goal k inv)
met-each p goal first [] h n inv at = absurd (none-some inv at)
met-each p goal first (x ∷ invs) h zero inv at = (first, subst (λ (x : Inv). IsMet p (goal first x)) (same_Some x inv at) (All-head (IsMet p) (goal first x) (for_each goal (suc first) invs) h))
met-each p goal first (x ∷ invs) h (suc n) inv at = met-each p goal (suc first) invs (All-tail (IsMet p) (goal first x) (for_each goal (suc first) invs) h) n inv at

pub met-proc : (p : Prog) (invs : List Inv) (n : ℕ) (procs : List Proc) → All (IsMet p) (proc_goals invs n procs)
    → (k m : ℕ) (q : Proc) → At procs k q → m ≡ n + k
    → All (IsMet p) (for_each (ToInvoke m q.at) 0 invs) × All (IsMet p) (goals_from invs m [] (proc_code q))
met-proc p invs n [] h k m q at e = absurd (none-some q at)
met-proc p invs n (x ∷ procs) h zero m q at e =
    let here : m ≡ n = omega (arith, e) in
    let first : List Goal = for_each (ToInvoke n x.at) 0 invs in
    let then_ : List Goal = goals_from invs n [] (proc_code x) in
    let rest = All-right (IsMet p) first (then_ ++ proc_goals invs (suc n) procs) (split h) in
    subst (λ m. All (IsMet p) (for_each (ToInvoke m q.at) 0 invs) × All (IsMet p) (goals_from invs m [] (proc_code q))) (sym here)
    (subst (λ (q : Proc). All (IsMet p) (for_each (ToInvoke n q.at) 0 invs) × All (IsMet p) (goals_from invs n [] (proc_code q))) (same_Some x q at) (
      All-left (IsMet p) first (then_ ++ proc_goals invs (suc n) procs) (split h),
      All-left (IsMet p) then_ (proc_goals invs (suc n) procs) rest,
    ))
  where
    split : All (IsMet p) (proc_goals invs n (x ∷ procs)) → All (IsMet p) (for_each (ToInvoke n x.at) 0 invs ++ (goals_from invs n [] (proc_code x) ++ proc_goals invs (suc n) procs))
    split h = h
met-proc p invs n (x ∷ procs) h (suc k) m q at e =
    met-proc p invs (suc n) procs
    (All-right (IsMet p) (goals_from invs n [] (proc_code x)) (proc_goals invs (suc n) procs)
    (All-right (IsMet p) (for_each (ToInvoke n x.at) 0 invs) (goals_from invs n [] (proc_code x) ++ proc_goals invs (suc n) procs) h))
    k m q at (omega (arith, e))

-- # Those of a place

arm-met : (p : Prog) (n : ℕ) (path : List Way) (on : Ex) {first arm con : ℕ} {slots : List ℕ} {arms : CodeArms} {body : Code} → IsArm first arms arm con slots body
    → All (IsMet p) (arm_goals p.invs n path on first arms) → All (IsMet p) (goals_from p.invs n (TakeArm on arm con slots ∷ path) body)
arm-met p n path on (first_arm {n = first} {con = con} {slots = slots} {body = body} {others = others}) h =
    All-left (IsMet p) (goals_from p.invs n (TakeArm on first con slots ∷ path) body) (arm_goals p.invs n path on (suc first) others) h
arm-met p n path on (later_arm {n = first} {con' = con} {slots' = slots} {body' = body} {others = others} a) h =
    arm-met p n path on a (All-right (IsMet p) (goals_from p.invs n (TakeArm on first con slots ∷ path) body) (arm_goals p.invs n path on (suc first) others) h)

pub met-behind : (p : Prog) (n : ℕ) (code : Code) {path : List Way} {rest : Code} → All (IsMet p) (goals_from p.invs n [] code) → Leaves code path rest
    → All (IsMet p) (goals_from p.invs n path rest)
met-behind p n code h at_start = h
met-behind p n code h (past_put l) = met-behind p n code h l
met-behind p n code h (past_decide l) = met-behind p n code h l
met-behind p n code h (past_new l) = met-behind p n code h l
met-behind p n code h (past_operate l) = met-behind p n code h l
met-behind p n code h (past_assert {path = path} {at = at} {f = f} {next = next} l) =
    All-tail (IsMet p) (ToAssert n path at f) (goals_from p.invs n path next) (met-behind p n code h l)
met-behind p n code h (past_then {path = path} {f = f} {then_ = a} {else_ = b} l) =
    All-left (IsMet p) (goals_from p.invs n (Take f true ∷ path) a) (goals_from p.invs n (Take f false ∷ path) b) (met-behind p n code h l)
met-behind p n code h (past_else {path = path} {f = f} {then_ = a} {else_ = b} l) =
    All-right (IsMet p) (goals_from p.invs n (Take f true ∷ path) a) (goals_from p.invs n (Take f false ∷ path) b) (met-behind p n code h l)
met-behind p n code h (past_arm {path = path} {on = on} l a) = arm-met p n path on a (met-behind p n code h l)
met-behind p n code h (past_begin l) = met-behind p n code h l
met-behind p n code h (past_end {path = path} {at = at} {next = next} l) =
    All-right (IsMet p) (for_each (ToCommit n path at) 0 p.invs) (goals_from p.invs n (trails.End ∷ path) next) (met-behind p n code h l)

pub met-init : (p : Prog) → All (IsMet p) (goals p) → All (IsMet p) (for_each ToInit 0 p.invs)
met-init p met = All-left (IsMet p) (for_each ToInit 0 p.invs) (proc_goals p.invs 0 p.procs) met

-- those of a procedure
pub met-of : (p : Prog) → All (IsMet p) (goals p) → (n : ℕ) (q : Proc) → At p.procs n q
    → All (IsMet p) (for_each (ToInvoke n q.at) 0 p.invs) × All (IsMet p) (goals_from p.invs n [] (proc_code q))
met-of p met n q at = met-proc p p.invs 0 p.procs (All-right (IsMet p) (for_each ToInit 0 p.invs) (proc_goals p.invs 0 p.procs) met) n n q at (omega arith)

module _ (p : Prog) (s : State) (i : ℕ) (q : Proc) (inv : Invocation) (trail : List Done) (on : IsOn p s i q inv trail) where
  -- those of the place where an invocation is
  pub met-at : All (IsMet p) (goals p) → (code : Code) → inv.left ≡ code → All (IsMet p) (goals_from p.invs inv.proc (path_of trail) code)
  met-at met code e =
      subst (λ code. All (IsMet p) (goals_from p.invs inv.proc (path_of trail) code)) e
      (met-behind p inv.proc (proc_code q) (met-of p met inv.proc q on.came.proc).1 on.behind)

  pub stands-there : IsValid p s → HoldsAll p s → Stands p s i q inv trail inv.proc (path_of trail)
  stands-there valid holds = record {
    valid = valid;
    came = on.came;
    proc_is = refl;
    along = refl;
    at_mark = hold-mark p s (start_of p s i q inv) trail valid holds on.came.follows;
    at_old = hold-old p s valid holds;
  }

-- claims give the invariants
pub claims-hold : (p : Prog) (s new : State) → IsValid p s → HoldsAll p s → new.calls ≡ s.calls → ((n : ℕ) (inv : Inv) → At p.invs n inv → Claim p s new inv.body)
    → HoldsAll p new
claims-hold p s new valid holds same claims v snapshot n inv at =
    let keep : (c : ℕ) (call : Call) → At s.calls c call → At new.calls c call = λ c call at. subst (λ calls. At calls c call) (sym same) at in
    let closed = part-closed s new.calls new.txs v valid.formed.history keep (closed-snapshot new.calls new.txs v snapshot) in
    claims n inv at v snapshot (holds (old_part s v) (snapshot-closed s.calls s.txs (old_part s v) closed))
