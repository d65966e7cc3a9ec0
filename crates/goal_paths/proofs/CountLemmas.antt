-- The numbers of goals and of paths are those of the lists.
use Rattle.std.proofs.Common.{◌≡◌, ℕ, suc, ◌+◌, true, false, filter, List, [], ◌∷◌, ◌++◌, length, refl, ap, ◌∙◌, arith}
use Rattle.std.proofs.lemmas.List.{length-append}
use Rattle.std.proofs.lemmas.List.Elements.{filter-append}
use Rattle.rp_lang.specs.Exprs.{Ex}
use Rattle.rp_lang.specs.Programs.{Inv, Proc, Prog}
use Rattle.event_machine.specs.Code as left
use Rattle.event_machine.specs.Code.{Code, CodeArms, no_code, also_code, proc_code}
use Rattle.one_invocation.specs.Trails.{Way, Put, Decide, New, Operate, Take, TakeArm, Begin, End}
use Rattle.one_invocation.specs.Goals.{Goal, ToInit, ToInvoke, ToCommit, ToReturn, for_each, goals_from, arm_goals, proc_goals, goals}
use Rattle.goal_paths.specs.Paths.{paths, arm_paths}
use Rattle.goal_paths.specs.Returns.{is_return}
use Rattle.goal_paths.specs.means.Counts.{goal_count, arm_goal_count, procs_goal_count}

pub length-for_each : (goal : ℕ → Inv → Goal) (k : ℕ) (invs : List Inv) → length (for_each goal k invs) ≡ length invs
length-for_each goal k [] = refl
length-for_each goal k (inv ∷ others) = ap suc (length-for_each goal (suc k) others)

both : {a b m n : ℕ} → a ≡ m → b ≡ n → a + b ≡ m + n
both p q = omega (arith, p, q)

mutual
  pub length-goals_from : (invs : List Inv) (proc : ℕ) (path : List Way) (code : Code)
      → length (goals_from invs proc path code) ≡ goal_count (length invs) code
  length-goals_from invs proc path (left.Put slot e next) = length-goals_from invs proc (Put slot e ∷ path) next
  length-goals_from invs proc path (left.Decide slot f next) = length-goals_from invs proc (Decide slot f ∷ path) next
  length-goals_from invs proc path (left.New slot of next) = length-goals_from invs proc (New slot of ∷ path) next
  length-goals_from invs proc path (left.Operate op args next) = length-goals_from invs proc (Operate op args ∷ path) next
  length-goals_from invs proc path (left.Assert at f next) = let more = length-goals_from invs proc path next in omega (arith, more)
  length-goals_from invs proc path (left.Choose f then_ else_) =
      length-append (goals_from invs proc (Take f true ∷ path) then_) (goals_from invs proc (Take f false ∷ path) else_)
      ∙ both (length-goals_from invs proc (Take f true ∷ path) then_) (length-goals_from invs proc (Take f false ∷ path) else_)
  length-goals_from invs proc path (left.Match on arms) = length-arm_goals invs proc path on 1 arms
  length-goals_from invs proc path (left.Begin next) = length-goals_from invs proc (Begin ∷ path) next
  length-goals_from invs proc path (left.End at next) =
      let here = length-for_each (ToCommit proc path at) 0 invs in
      let more = length-goals_from invs proc (End ∷ path) next in
      let split = length-append (for_each (ToCommit proc path at) 0 invs) (goals_from invs proc (End ∷ path) next) in
      omega (arith, here, more, split)
  length-goals_from invs proc path (left.Return at result) = length-for_each (ToReturn proc path at result) 0 invs

  pub length-arm_goals : (invs : List Inv) (proc : ℕ) (path : List Way) (on : Ex) (arm : ℕ) (arms : CodeArms)
      → length (arm_goals invs proc path on arm arms) ≡ arm_goal_count (length invs) arms
  length-arm_goals invs proc path on arm no_code = refl
  length-arm_goals invs proc path on arm (also_code con slots body others) =
      length-append (goals_from invs proc (TakeArm on arm con slots ∷ path) body) (arm_goals invs proc path on (suc arm) others)
      ∙ both (length-goals_from invs proc (TakeArm on arm con slots ∷ path) body) (length-arm_goals invs proc path on (suc arm) others)

pub length-proc_goals : (invs : List Inv) (n : ℕ) (procs : List Proc) → length (proc_goals invs n procs) ≡ procs_goal_count (length invs) procs
length-proc_goals invs n [] = refl
length-proc_goals invs n (q ∷ others) =
    let first = length-for_each (ToInvoke n q.at) 0 invs in
    let here = length-goals_from invs n [] (proc_code q) in
    let later = length-proc_goals invs (suc n) others in
    let outer = length-append (for_each (ToInvoke n q.at) 0 invs) (goals_from invs n [] (proc_code q) ++ proc_goals invs (suc n) others) in
    let inner = length-append (goals_from invs n [] (proc_code q)) (proc_goals invs (suc n) others) in
    omega (arith, first, here, later, outer, inner)

pub length-goals : (p : Prog) → length (goals p) ≡ length p.invs + procs_goal_count (length p.invs) p.procs
length-goals p =
    let first = length-for_each ToInit 0 p.invs in
    let later = length-proc_goals p.invs 0 p.procs in
    let split = length-append (for_each ToInit 0 p.invs) (proc_goals p.invs 0 p.procs) in
    omega (arith, first, later, split)

-- # Paths

append-count : (xs ys : List Goal) → length (filter is_return (xs ++ ys)) ≡ length (filter is_return xs) + length (filter is_return ys)
append-count xs ys = ap length (filter-append is_return xs ys) ∙ length-append (filter is_return xs) (filter is_return ys)

mutual
  pub returns-of : (claim : Inv) (proc : ℕ) (path : List Way) (code : Code)
      → length (filter is_return (goals_from (claim ∷ []) proc path code)) ≡ paths code
  returns-of claim proc path (left.Put slot e next) = returns-of claim proc (Put slot e ∷ path) next
  returns-of claim proc path (left.Decide slot f next) = returns-of claim proc (Decide slot f ∷ path) next
  returns-of claim proc path (left.New slot of next) = returns-of claim proc (New slot of ∷ path) next
  returns-of claim proc path (left.Operate op args next) = returns-of claim proc (Operate op args ∷ path) next
  returns-of claim proc path (left.Assert at f next) = returns-of claim proc path next
  returns-of claim proc path (left.Choose f then_ else_) =
      append-count (goals_from (claim ∷ []) proc (Take f true ∷ path) then_) (goals_from (claim ∷ []) proc (Take f false ∷ path) else_)
      ∙ both (returns-of claim proc (Take f true ∷ path) then_) (returns-of claim proc (Take f false ∷ path) else_)
  returns-of claim proc path (left.Match on arms) = arm-returns claim proc path on 1 arms
  returns-of claim proc path (left.Begin next) = returns-of claim proc (Begin ∷ path) next
  returns-of claim proc path (left.End at next) = returns-of claim proc (End ∷ path) next
  returns-of claim proc path (left.Return at result) = refl

  arm-returns : (claim : Inv) (proc : ℕ) (path : List Way) (on : Ex) (arm : ℕ) (arms : CodeArms)
      → length (filter is_return (arm_goals (claim ∷ []) proc path on arm arms)) ≡ arm_paths arms
  arm-returns claim proc path on arm no_code = refl
  arm-returns claim proc path on arm (also_code con slots body others) =
      append-count (goals_from (claim ∷ []) proc (TakeArm on arm con slots ∷ path) body) (arm_goals (claim ∷ []) proc path on (suc arm) others)
      ∙ both (returns-of claim proc (TakeArm on arm con slots ∷ path) body) (arm-returns claim proc path on (suc arm) others)
