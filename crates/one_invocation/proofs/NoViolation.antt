-- No label of an invocation that has come along a trail violates, where all goals are met.
use Rattle.std.proofs.Common.{◌≡◌, ℕ, Bool, true, false, if◌then◌else◌, List, [], All, refl, sym, ◌∙◌, subst, true≢false}
use Rattle.std.specs.Option.{option_map_or}
use Rattle.std.specs.declared.option.Option.{Option}
use Rattle.std.specs.declared.option.Option.TheVariants.{None, Some}
use Rattle.std.proofs.lemmas.Option.{none-some, same_Some}
use Rattle.std.proofs.lemmas.List.Elements.{All-head}
use Rattle.rp_value.specs.Values.{Val}
use Rattle.rp_lang.specs.Programs.{Proc, Prog}
use Rattle.crdt_defs.specs.Truths.{value, truth, is_built}
use Rattle.event_machine.specs.Code as left
use Rattle.event_machine.specs.Code.{Code, CodeArms, no_code, also_code}
use Rattle.event_machine.specs.Machine.{Failed, Invocation, State, Label, Invoke, Begin, Op, Local, New, Commit, Return, Fail, Check, Assertion, Why, Answer, Moved, Violated, at_invocation, named, on_invocation, with_invocation, with_fields, begins, operates, into_arm, local, made, commits, stands, returns, effect, unless_refused}
use Rattle.event_machine.specs.Runs.{Violates}
use Rattle.event_machine.specs.WellFormed.{At}
use Rattle.event_machine.specs.Growth.{IsValid}
use Rattle.event_machine.specs.LocalSafety.{HoldsAll}
use Rattle.one_invocation.specs.Trails.{Done, path_of}
use Rattle.one_invocation.specs.Goals.{ToAssert, goals_from, goals, IsMet}
use Rattle.one_invocation.proofs.TrailSteps.{IsOn}
use Rattle.one_invocation.proofs.MetGoals.{met-at, stands-there}

arm-never : (s : State) (i : ℕ) (inv : Invocation) (v : Val) (arms : CodeArms) → Violates (into_arm s i inv v arms) → ⊥
arm-never s i inv v no_code x = let e = x.1 in cc
arm-never s i inv v (also_code con places body others) x = go (λ x. arm-never s i inv v others x) (is_built con v) x
  where
    go : (Violates (into_arm s i inv v others) → ⊥) → (b : Bool) → Violates (if b then Moved (with_invocation s i (record (with_fields inv places v) { left = body })) else into_arm s i inv v others) → ⊥
    go rest true x = let e = x.1 in cc
    go rest false x = rest x

local-never : (p : Prog) (s : State) (i : ℕ) (q : Proc) (inv : Invocation) (trail : List Done) → IsValid p s → HoldsAll p s → IsOn p s i q inv trail → All (IsMet p) (goals p)
    → (code : Code) → inv.left ≡ code → Violates (local p s i inv code) → ⊥
local-never p s i q inv trail valid holds on met (left.Assert at f next) is x = go (truth (at_invocation p s inv) [] f) refl x
  where
    go : (b : Bool) → truth (at_invocation p s inv) [] f ≡ b → Violates (if b then Moved (with_invocation s i (record inv { left = next })) else Violated (Assertion at)) → ⊥
    go true e x = let k = x.1 in cc
    go false e x =
        let path = path_of trail in
        let here = All-head (IsMet p) (ToAssert inv.proc path at f) (goals_from p.invs inv.proc path next) (met-at p s i q inv trail on met (left.Assert at f next) is) in
        true≢false (sym (here s i q inv trail (stands-there p s i q inv trail on valid holds)) ∙ e)
local-never p s i q inv trail valid holds on met (left.Match y arms) is x = arm-never s i inv (value (at_invocation p s inv) [] y) arms x
local-never p s i q inv trail valid holds on met (left.Put slot e next) is x = let k = x.1 in cc
local-never p s i q inv trail valid holds on met (left.Decide slot f next) is x = let k = x.1 in cc
local-never p s i q inv trail valid holds on met (left.Choose f then_ else_) is x = let k = x.1 in cc
local-never p s i q inv trail valid holds on met _ is x = let k = x.1 in cc

begins-never : (s : State) (i stamp : ℕ) (sees : List ℕ) (inv : Invocation) (code : Code) → Violates (begins s i stamp sees inv code) → ⊥
begins-never s i stamp sees inv (left.Begin next) x = let k = x.1 in cc
begins-never s i stamp sees inv _ x = let k = x.1 in cc

operates-never : (p : Prog) (s : State) (i stamp : ℕ) (inv : Invocation) (tx : Option ℕ) (code : Code) → Violates (operates p s i stamp inv tx code) → ⊥
operates-never p s i stamp inv (Some t) (left.Operate op args next) x = let k = x.1 in cc
operates-never p s i stamp inv None code x = let k = x.1 in cc
operates-never p s i stamp inv (Some t) _ x = let k = x.1 in cc

made-never : (s : State) (i : ℕ) (id : Val) (inv : Invocation) (code : Code) → Violates (made s i id inv code) → ⊥
made-never s i id inv (left.New slot of next) x = let k = x.1 in cc
made-never s i id inv _ x = let k = x.1 in cc

commits-never : (s : State) (i : ℕ) (inv : Invocation) (tx : Option ℕ) (code : Code) → Violates (commits s i inv tx code) → ⊥
commits-never s i inv (Some t) (left.End at next) x = let k = x.1 in cc
commits-never s i inv None code x = let k = x.1 in cc
commits-never s i inv (Some t) _ x = let k = x.1 in cc

returns-never : (p : Prog) (s : State) (i : ℕ) (inv : Invocation) (code : Code) → Violates (returns p s i inv code) → ⊥
returns-never p s i inv (left.Return at result) x = let k = x.1 in cc
returns-never p s i inv _ x = let k = x.1 in cc

pub violated-effect : (why : Option Why) (answer : Answer) → Violates (unless_refused why answer) → Violates answer
violated-effect None answer v = v
violated-effect (Some why) answer v = let e = v.1 in cc

-- the action of the invocation that is there
acting : (s : State) (i : ℕ) (inv : Invocation) (act : Invocation → Answer) → At s.invocations i inv → Violates (on_invocation s i act) → Violates (act inv)
acting s i inv act at x = subst (λ o. Violates (option_map_or act o (Moved s))) at x

pub label-never : (p : Prog) (s : State) (i : ℕ) (q : Proc) (inv : Invocation) (trail : List Done) → IsValid p s → HoldsAll p s → IsOn p s i q inv trail → All (IsMet p) (goals p)
    → (label : Label) → named label ≡ Some i → Violates (effect p s label) → ⊥
label-never p s i q inv trail valid holds on met (Invoke proc args) names x = absurd (none-some i names)
label-never p s i q inv trail valid holds on met (Check sees) names x = absurd (none-some i names)
label-never p s i q inv trail valid holds on met (Begin j stamp sees) names x =
    let x' = subst (λ j. Violates (effect p s (Begin j stamp sees))) (same_Some j i names) x in
    begins-never s i stamp sees inv inv.left (acting s i inv (λ inv. begins s i stamp sees inv inv.left) on.came.is x')
label-never p s i q inv trail valid holds on met (Op j stamp) names x =
    let x' = subst (λ j. Violates (effect p s (Op j stamp))) (same_Some j i names) x in
    operates-never p s i stamp inv inv.tx inv.left (acting s i inv (λ inv. operates p s i stamp inv inv.tx inv.left) on.came.is x')
label-never p s i q inv trail valid holds on met (Local j) names x =
    let x' = subst (λ j. Violates (effect p s (Local j))) (same_Some j i names) x in
    local-never p s i q inv trail valid holds on met inv.left refl (acting s i inv (λ inv. local p s i inv inv.left) on.came.is x')
label-never p s i q inv trail valid holds on met (New j id) names x =
    let x' = subst (λ j. Violates (effect p s (New j id))) (same_Some j i names) x in
    made-never s i id inv inv.left (acting s i inv (λ inv. made s i id inv inv.left) on.came.is x')
label-never p s i q inv trail valid holds on met (Commit j) names x =
    let x' = subst (λ j. Violates (effect p s (Commit j))) (same_Some j i names) x in
    commits-never s i inv inv.tx inv.left (acting s i inv (λ inv. commits s i inv inv.tx inv.left) on.came.is x')
label-never p s i q inv trail valid holds on met (Return j) names x =
    let x' = subst (λ j. Violates (effect p s (Return j))) (same_Some j i names) x in
    returns-never p s i inv inv.left (acting s i inv (λ inv. returns p s i inv inv.left) on.came.is x')
label-never p s i q inv trail valid holds on met (Fail j) names x =
    let x' = subst (λ j. Violates (effect p s (Fail j))) (same_Some j i names) x in
    let y = acting s i inv (λ inv. stands s i inv Failed) on.came.is x' in
    let e = y.1 in
    cc
