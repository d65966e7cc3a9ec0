-- The list of goals has exactly those that the places of the procedures have.
use Rattle.std.proofs.Common.{◌≡◌, ℕ, zero, suc, ◌+◌, true, false, List, [], ◌∷◌, ◌++◌, Contains, refl, ap, sym, ◌∙◌, subst, arith, ◌⊎◌, inl, inr}
use Rattle.std.proofs.lemmas.Option.{none-some, same_Some}
use Rattle.std.proofs.lemmas.List.Elements.{Contains-push, Contains-append_left, Contains-append_right, Contains-append_cases}
use Rattle.rp_lang.specs.Exprs.{Ex}
use Rattle.rp_lang.specs.Programs.{Proc, Inv, Prog}
use Rattle.event_machine.proofs.ListLemmas.{Contains-nil, Contains-cons_cases}
use Rattle.event_machine.specs.Code as left
use Rattle.event_machine.specs.Code.{Code, CodeArms, no_code, also_code, proc_code}
use Rattle.event_machine.specs.WellFormed.{At}
use Rattle.one_invocation.specs.Trails.{Way, Put, Decide, New, Operate, Take, TakeArm, Begin, End}
use Rattle.one_invocation.specs.Places.{IsArm, first_arm, later_arm, Leaves, at_start, past_put, past_decide, past_new, past_operate, past_assert, past_then, past_else, past_arm, past_begin, past_end}
use Rattle.one_invocation.specs.Goals.{Goal, ToInit, ToInvoke, ToAssert, ToCommit, ToReturn, for_each, goals_from, arm_goals, proc_goals, goals}
use Rattle.one_invocation.specs.GoalPlaces.{IsGoalOf, initial, invoked, asserted, ended, returned}

here : (x : Goal) (xs : List Goal) → Contains (x ∷ xs) x
here x xs = Contains-append_left (x ∷ []) xs x (Contains-push [] x)

further : (x : Goal) (xs : List Goal) (g : Goal) → Contains xs g → Contains (x ∷ xs) g
further x xs g h = Contains-append_right (x ∷ []) xs g h

-- # One goal for each invariant

each-of : (goal : ℕ → Inv → Goal) (first : ℕ) (invs : List Inv) (g : Goal) → Contains (for_each goal first invs) g
    → (k n : ℕ) × (claim : Inv) × At invs k claim × (n ≡ first + k) × (goal n claim ≡ g)
each-of goal first [] g h = absurd (Contains-nil g h)
each-of goal first (x ∷ invs) g h = elim (Contains-cons_cases (goal first x) (for_each goal (suc first) invs) g h) [
  | inl e ↦ (0, first, x, refl, omega arith, e)
  | inr rest ↦ let m = each-of goal (suc first) invs g rest in let e = m.4 in (suc m.0, m.1, m.2, m.3, omega (arith, e), m.5)
]

to-each : (goal : ℕ → Inv → Goal) (first : ℕ) (invs : List Inv) (k n : ℕ) (claim : Inv) → At invs k claim → n ≡ first + k → Contains (for_each goal first invs) (goal n claim)
to-each goal first [] k n claim at e = absurd (none-some claim at)
to-each goal first (x ∷ invs) zero n claim at e =
    let q : first ≡ n = omega (arith, e) in
    subst (λ g. Contains (goal first x ∷ for_each goal (suc first) invs) g) (ap (goal first) (same_Some x claim at) ∙ ap (λ n. goal n claim) q) (here (goal first x) (for_each goal (suc first) invs))
to-each goal first (x ∷ invs) (suc k) n claim at e =
    further (goal first x) (for_each goal (suc first) invs) (goal n claim) (to-each goal (suc first) invs k n claim at (omega (arith, e)))

-- from number 0 on
each-at : (p : Prog) (goal : ℕ → Inv → Goal) (g : Goal) → ((k : ℕ) (claim : Inv) → At p.invs k claim → IsGoalOf p (goal k claim)) → Contains (for_each goal 0 p.invs) g → IsGoalOf p g
each-at p goal g of h =
    let m = each-of goal 0 p.invs g h in
    let e = m.4 in
    let q : m.0 ≡ m.1 = omega (arith, e) in
    subst (IsGoalOf p) m.5 (of m.1 m.2 (subst (λ k. At p.invs k m.2) q m.3))

-- # Each goal is of a place

module _ (p : Prog) (n : ℕ) (q : Proc) (is : At p.procs n q) where
  mutual
    code-goals : (path : List Way) (code : Code) → Leaves (proc_code q) path code → (g : Goal) → Contains (goals_from p.invs n path code) g → IsGoalOf p g
    code-goals path (left.Put slot e next) l g h = code-goals (Put slot e ∷ path) next (past_put l) g h
    code-goals path (left.Decide slot f next) l g h = code-goals (Decide slot f ∷ path) next (past_decide l) g h
    code-goals path (left.New slot of next) l g h = code-goals (New slot of ∷ path) next (past_new l) g h
    code-goals path (left.Operate op args next) l g h = code-goals (Operate op args ∷ path) next (past_operate l) g h
    code-goals path (left.Assert at f next) l g h = elim (Contains-cons_cases (ToAssert n path at f) (goals_from p.invs n path next) g h) [
      | inl e ↦ subst (IsGoalOf p) e (asserted is l)
      | inr rest ↦ code-goals path next (past_assert l) g rest
    ]
    code-goals path (left.Choose f then_ else_) l g h = elim (Contains-append_cases (goals_from p.invs n (Take f true ∷ path) then_) (goals_from p.invs n (Take f false ∷ path) else_) g h) [
      | inl a ↦ code-goals (Take f true ∷ path) then_ (past_then l) g a
      | inr b ↦ code-goals (Take f false ∷ path) else_ (past_else l) g b
    ]
    code-goals path (left.Match on arms) l g h = arms-goals path on 1 arms (λ arm con slots body a. past_arm l a) g h
    code-goals path (left.Begin next) l g h = code-goals (Begin ∷ path) next (past_begin l) g h
    code-goals path (left.End at next) l g h = elim (Contains-append_cases (for_each (ToCommit n path at) 0 p.invs) (goals_from p.invs n (End ∷ path) next) g h) [
      | inl a ↦ each-at p (ToCommit n path at) g (λ k claim atk. ended is l atk) a
      | inr b ↦ code-goals (End ∷ path) next (past_end l) g b
    ]
    code-goals path (left.Return at result) l g h = each-at p (ToReturn n path at result) g (λ k claim atk. returned is l atk) h

    arms-goals : (path : List Way) (on : Ex) (first : ℕ) (arms : CodeArms)
        → ((arm con : ℕ) (slots : List ℕ) (body : Code) → IsArm first arms arm con slots body → Leaves (proc_code q) (TakeArm on arm con slots ∷ path) body)
        → (g : Goal) → Contains (arm_goals p.invs n path on first arms) g → IsGoalOf p g
    arms-goals path on first no_code l g h = absurd (Contains-nil g h)
    arms-goals path on first (also_code con slots body others) l g h = elim (Contains-append_cases (goals_from p.invs n (TakeArm on first con slots ∷ path) body) (arm_goals p.invs n path on (suc first) others) g h) [
      | inl a ↦ code-goals (TakeArm on first con slots ∷ path) body (l first con slots body first_arm) g a
      | inr b ↦ arms-goals path on (suc first) others (λ arm con' slots' body' a. l arm con' slots' body' (later_arm a)) g b
    ]

procs-goals : (p : Prog) (n : ℕ) (procs : List Proc) → ((k m : ℕ) (q : Proc) → At procs k q → m ≡ n + k → At p.procs m q) → (g : Goal) → Contains (proc_goals p.invs n procs) g → IsGoalOf p g
procs-goals p n [] are g h = absurd (Contains-nil g h)
procs-goals p n (q ∷ procs) are g h =
    let is : At p.procs n q = are 0 n q refl (omega arith) in
    elim (Contains-append_cases (for_each (ToInvoke n q.at) 0 p.invs) (goals_from p.invs n [] (proc_code q) ++ proc_goals p.invs (suc n) procs) g h) [
      | inl a ↦ each-at p (ToInvoke n q.at) g (λ k claim atk. invoked is atk) a
      | inr b ↦ elim (Contains-append_cases (goals_from p.invs n [] (proc_code q)) (proc_goals p.invs (suc n) procs) g b) [
        | inl c ↦ code-goals p n q is [] (proc_code q) at_start g c
        | inr d ↦ procs-goals p (suc n) procs (λ k m r at e. are (suc k) m r at (omega (arith, e))) g d
      ]
    ]

pub goals-are : (p : Prog) (g : Goal) → Contains (goals p) g → IsGoalOf p g
goals-are p g h = elim (Contains-append_cases (for_each ToInit 0 p.invs) (proc_goals p.invs 0 p.procs) g h) [
  | inl a ↦ each-at p ToInit g (λ k claim atk. initial atk) a
  | inr b ↦ procs-goals p 0 p.procs (λ k m q at e. let same : k ≡ m = omega (arith, e) in subst (λ k. At p.procs k q) same at) g b
]

-- # Each place has its goals

arm-in : (invs : List Inv) (n : ℕ) (path : List Way) (on : Ex) (g : Goal) {first arm con : ℕ} {slots : List ℕ} {arms : CodeArms} {body : Code} → IsArm first arms arm con slots body
    → Contains (goals_from invs n (TakeArm on arm con slots ∷ path) body) g → Contains (arm_goals invs n path on first arms) g
arm-in invs n path on g (first_arm {n = first} {con = con} {slots = slots} {body = body} {others = others}) h =
    Contains-append_left (goals_from invs n (TakeArm on first con slots ∷ path) body) (arm_goals invs n path on (suc first) others) g h
arm-in invs n path on g (later_arm {n = first} {con' = con} {slots' = slots} {body' = body} {others = others} a) h =
    Contains-append_right (goals_from invs n (TakeArm on first con slots ∷ path) body) (arm_goals invs n path on (suc first) others) g (arm-in invs n path on g a h)

behind-in : (invs : List Inv) (n : ℕ) (code : Code) (g : Goal) {path : List Way} {rest : Code} → Leaves code path rest → Contains (goals_from invs n path rest) g → Contains (goals_from invs n [] code) g
behind-in invs n code g at_start h = h
behind-in invs n code g (past_put l) h = behind-in invs n code g l h
behind-in invs n code g (past_decide l) h = behind-in invs n code g l h
behind-in invs n code g (past_new l) h = behind-in invs n code g l h
behind-in invs n code g (past_operate l) h = behind-in invs n code g l h
behind-in invs n code g (past_assert {path = path} {at = at} {f = f} {next = next} l) h =
    behind-in invs n code g l (further (ToAssert n path at f) (goals_from invs n path next) g h)
behind-in invs n code g (past_then {path = path} {f = f} {then_ = a} {else_ = b} l) h =
    behind-in invs n code g l (Contains-append_left (goals_from invs n (Take f true ∷ path) a) (goals_from invs n (Take f false ∷ path) b) g h)
behind-in invs n code g (past_else {path = path} {f = f} {then_ = a} {else_ = b} l) h =
    behind-in invs n code g l (Contains-append_right (goals_from invs n (Take f true ∷ path) a) (goals_from invs n (Take f false ∷ path) b) g h)
behind-in invs n code g (past_arm {path = path} {on = on} l a) h = behind-in invs n code g l (arm-in invs n path on g a h)
behind-in invs n code g (past_begin l) h = behind-in invs n code g l h
behind-in invs n code g (past_end {path = path} {at = at} {next = next} l) h =
    behind-in invs n code g l (Contains-append_right (for_each (ToCommit n path at) 0 invs) (goals_from invs n (End ∷ path) next) g h)

proc-in : (invs : List Inv) (n : ℕ) (procs : List Proc) (k m : ℕ) (q : Proc) (g : Goal) → At procs k q → m ≡ n + k
    → Contains (for_each (ToInvoke m q.at) 0 invs) g ⊎ Contains (goals_from invs m [] (proc_code q)) g → Contains (proc_goals invs n procs) g
proc-in invs n [] k m q g at e h = absurd (none-some q at)
proc-in invs n (x ∷ procs) zero m q g at e h =
    let same : m ≡ n = omega (arith, e) in
    go (subst (λ m. Contains (for_each (ToInvoke m x.at) 0 invs) g ⊎ Contains (goals_from invs m [] (proc_code x)) g) same
    (subst (λ (q : Proc). Contains (for_each (ToInvoke m q.at) 0 invs) g ⊎ Contains (goals_from invs m [] (proc_code q)) g) (sym (same_Some x q at)) h))
  where
    go : Contains (for_each (ToInvoke n x.at) 0 invs) g ⊎ Contains (goals_from invs n [] (proc_code x)) g → Contains (proc_goals invs n (x ∷ procs)) g
    go (inl a) = Contains-append_left (for_each (ToInvoke n x.at) 0 invs) (goals_from invs n [] (proc_code x) ++ proc_goals invs (suc n) procs) g a
    go (inr b) =
        Contains-append_right (for_each (ToInvoke n x.at) 0 invs) (goals_from invs n [] (proc_code x) ++ proc_goals invs (suc n) procs) g
        (Contains-append_left (goals_from invs n [] (proc_code x)) (proc_goals invs (suc n) procs) g b)
proc-in invs n (x ∷ procs) (suc k) m q g at e h =
    Contains-append_right (for_each (ToInvoke n x.at) 0 invs) (goals_from invs n [] (proc_code x) ++ proc_goals invs (suc n) procs) g
    (Contains-append_right (goals_from invs n [] (proc_code x)) (proc_goals invs (suc n) procs) g (proc-in invs (suc n) procs k m q g at (omega (arith, e)) h))

-- a goal of a procedure is one of the program
of-proc : (p : Prog) (n : ℕ) (q : Proc) (g : Goal) → At p.procs n q → Contains (for_each (ToInvoke n q.at) 0 p.invs) g ⊎ Contains (goals_from p.invs n [] (proc_code q)) g
    → Contains (goals p) g
of-proc p n q g at h = Contains-append_right (for_each ToInit 0 p.invs) (proc_goals p.invs 0 p.procs) g (proc-in p.invs 0 p.procs n n q g at (omega arith) h)

pub are-goals : (p : Prog) {g : Goal} → IsGoalOf p g → Contains (goals p) g
are-goals p (initial {k = k} {claim = claim} at) =
    Contains-append_left (for_each ToInit 0 p.invs) (proc_goals p.invs 0 p.procs) (ToInit k claim) (to-each ToInit 0 p.invs k k claim at (omega arith))
are-goals p (invoked {n = n} {k = k} {q = q} {claim = claim} is at) =
    of-proc p n q (ToInvoke n q.at k claim) is (inl (to-each (ToInvoke n q.at) 0 p.invs k k claim at (omega arith)))
are-goals p (asserted {n = n} {q = q} {path = path} {at = at} {f = f} {next = next} is l) =
    let g : Goal = ToAssert n path at f in
    of-proc p n q g is (inr (behind-in p.invs n (proc_code q) g l (here g (goals_from p.invs n path next))))
are-goals p (ended {n = n} {k = k} {q = q} {path = path} {at = at} {next = next} {claim = claim} is l atk) =
    let g : Goal = ToCommit n path at k claim in
    of-proc p n q g is (inr (behind-in p.invs n (proc_code q) g l
    (Contains-append_left (for_each (ToCommit n path at) 0 p.invs) (goals_from p.invs n (End ∷ path) next) g (to-each (ToCommit n path at) 0 p.invs k k claim atk (omega arith)))))
are-goals p (returned {n = n} {k = k} {q = q} {path = path} {at = at} {result = result} {claim = claim} is l atk) =
    let g : Goal = ToReturn n path at result k claim in
    of-proc p n q g is (inr (behind-in p.invs n (proc_code q) g l (to-each (ToReturn n path at result) 0 p.invs k k claim atk (omega arith))))
