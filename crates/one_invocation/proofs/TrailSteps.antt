-- Each accepted label of an invocation that has come along a trail extends the trail, or ends the invocation.
use Rattle.std.proofs.Common.{◌≡◌, ◌≢◌, ℕ, suc, Bool, true, false, if◌then◌else◌, List, [], ◌∷◌, ◌++◌, length, refl, ap, sym, ◌∙◌, subst, slice_set, ◌⊎◌, inl, inr, true≢false, eqb-true}
use Rattle.std.specs.Option.{option_map}
use Rattle.std.specs.declared.option.Option.{Option}
use Rattle.std.specs.declared.option.Option.TheVariants.{None, Some}
use Rattle.std.proofs.lemmas.Option.{none-some, same_Some}
use Rattle.rp_span.specs.declared.Span.{Span}
use Rattle.rp_value.specs.Values as val
use Rattle.rp_value.specs.Values.{Val, Vals}
use Rattle.rp_lang.specs.Exprs.{Ex, Exs}
use Rattle.rp_lang.specs.Programs.{Proc, Prog}
use Rattle.crdt_defs.specs.Calls.{Call}
use Rattle.crdt_defs.specs.Truths.{truth_val, list_of, value, values, truth, is_built}
use Rattle.crdt_defs.proofs.SameLemmas.{same_val_itself}
use Rattle.event_machine.specs.Code as left
use Rattle.event_machine.specs.Code.{Code, CodeArms, no_code, also_code, proc_code}
use Rattle.event_machine.specs.Machine.{Running, Returned, Failed, Invocation, State, Label, Invoke, Begin, Op, Local, New, Commit, Return, Fail, Check, Assertion, Why, Answer, Moved, Violated, is_in, calls_of, reading_set, at_invocation, named, with_invocation, with_fields, filled, begun, operated, into_arm, local, committed, commits, returns, effect, refusal, unless_refused, step}
use Rattle.event_machine.specs.Runs.{Leads}
use Rattle.event_machine.specs.WellFormed.{At}
use Rattle.event_machine.specs.Growth.{IsValid}
use Rattle.event_machine.specs.LocalSafety.{IsRunning}
use Rattle.event_machine.proofs.PlaceLemmas.{at-one, at-set_same}
use Rattle.event_machine.proofs.MoveLemmas.{Acts, acted, step-moves}
use Rattle.event_machine.proofs.KnownLemmas.{changed}
use Rattle.event_machine.proofs.PrivateLemmas.{placed, id-of}
use Rattle.event_machine.proofs.KeptLemmas.{is-none, fits-at, not-running, not-failed}
use Rattle.one_invocation.specs.Trails.{Done, HasPut, HasDecided, HasOperated, HasMade, HasTaken, HasTakenArm, HasBegun, HasEnded, path_of}
use Rattle.one_invocation.specs.Trails as trails
use Rattle.one_invocation.specs.Places.{IsArm, first_arm, later_arm, Leaves, past_put, past_decide, past_new, past_operate, past_assert, past_then, past_else, past_arm, past_begin, past_end}
use Rattle.one_invocation.specs.CameAlong.{CameAlong, GoesOn}
use Rattle.one_invocation.proofs.CameSteps.{came-put, came-decide, came-pass, came-take, came-arm, came-new, came-begin, came-op, came-commit}

-- an invocation on its trail, and what it has left
pub record IsOn (p : Prog) (s : State) (i : ℕ) (q : Proc) (inv : Invocation) (trail : List Done) : Type 0 where
  pub came : CameAlong p s i q inv trail
  pub behind : Leaves (proc_code q) (path_of trail) inv.left

-- it goes on, or it has come to its end
abbrev pub Next : Prog → State → ℕ → Proc → List Done → Type 0
Next p new i q trail = GoesOn p new i q trail ⊎ (IsRunning new i → ⊥)

pub at-inv : (p : Prog) (s : State) (i : ℕ) (q : Proc) (inv other : Invocation) (trail : List Done) → IsOn p s i q inv trail → At s.invocations i other
    → IsOn p s i q other trail
at-inv p s i q inv other trail on at = subst (λ v. IsOn p s i q v trail) (at-one s.invocations i inv other on.came.is at) on

-- an action from the effect of its label
pub accepted-effect : (s new : State) (why : Option Why) (answer : Answer) → Leads s (unless_refused why answer) new → Leads s answer new
accepted-effect s new None answer l = l
accepted-effect s new (Some why) answer l = absurd l

stopped : (s new : State) (i : ℕ) (v after : Invocation) → At s.invocations i v → new ≡ with_invocation s i after → after.standing ≢ Running → IsRunning new i → ⊥
stopped s new i v after at e stop run =
    let here : At new.invocations i after = subst (λ (n : State). At n.invocations i after) (sym e) (at-set_same s.invocations i after v at) in
    stop (ap (λ (x : Invocation). x.standing) (at-one new.invocations i after run.0 here run.1) ∙ run.2)

built-con : (con : ℕ) (v : Val) → is_built con v ≡ true → (fields : Vals) × (v ≡ val.Con con fields)
built-con con (val.Con c args) h = (args, ap (λ k. val.Con k args) (eqb-true c con h))
built-con con (val.Int n) h = absurd (true≢false (sym h))
built-con con (val.Str bytes) h = absurd (true≢false (sym h))
built-con con (val.Atom of n) h = absurd (true≢false (sym h))
built-con con (val.Call c) h = absurd (true≢false (sym h))
built-con con (val.Inv j) h = absurd (true≢false (sym h))

pub commit-code : (s new : State) (i : ℕ) (v : Invocation) (tx : Option ℕ) (code : Code) → Leads s (commits s i v tx code) new
    → (new ≡ s) ⊎ ((t : ℕ) × (at : Span) × (next : Code) × (tx ≡ Some t) × (code ≡ left.End at next) × (new ≡ committed s i v t next))
commit-code s new i v None code l = inl l
commit-code s new i v (Some t) (left.End at next) l = inr (t, at, next, refl, refl, l)
commit-code s new i v (Some t) _ l = inl l

pub return-code : (p : Prog) (s new : State) (i : ℕ) (v : Invocation) (code : Code) → Leads s (returns p s i v code) new
    → (new ≡ s) ⊎ ((at : Span) × (result : Option Ex) × (code ≡ left.Return at result)
    × (new ≡ with_invocation s i (record v { standing = Returned (option_map (value (at_invocation p s v) []) result) })))
return-code p s new i v (left.Return at result) l = inr (at, result, refl, l)
return-code p s new i v _ l = inl l

module _ (p : Prog) (s : State) (i : ℕ) (q : Proc) (trail : List Done) (valid : IsValid p s) where
  same-next : (new : State) (inv : Invocation) → IsOn p s i q inv trail → new ≡ s → Next p new i q trail
  same-next new inv on e = subst (λ n. Next p n i q trail) (sym e) (inl (inv, [], on.came, on.behind))

  behind-at : (inv : Invocation) → IsOn p s i q inv trail → (code : Code) → inv.left ≡ code → Leaves (proc_code q) (path_of trail) code
  behind-at inv on code e = subst (Leaves (proc_code q) (path_of trail)) e on.behind

  moves-on : (new : State) (inv : Invocation) (slots : List (Option Val)) (next : Code) (gen : List Val) (later : List Done)
      → CameAlong p (changed s i (placed inv slots next) gen) i q (placed inv slots next) (later ++ trail) → Leaves (proc_code q) (path_of (later ++ trail)) next
      → new ≡ changed s i (placed inv slots next) gen → Next p new i q trail
  moves-on new inv slots next gen later came behind e = subst (λ n. Next p n i q trail) (sym e) (inl (placed inv slots next, later, came, behind))

  -- # Local actions

  module _ (inv : Invocation) (on : IsOn p s i q inv trail) where
    arm-next : (new : State) (x : Ex) (v : Val) → value (at_invocation p s inv) [] x ≡ v → (n : ℕ) (arms : CodeArms)
        → ((arm con : ℕ) (slots : List ℕ) (body : Code) → IsArm n arms arm con slots body → Leaves (proc_code q) (trails.TakeArm x arm con slots ∷ path_of trail) body)
        → Leads s (into_arm s i inv v arms) new → Next p new i q trail
    arm-next new x v is n no_code behind l = same-next new inv on l
    arm-next new x v is n (also_code con places body others) behind l =
        go (λ l. arm-next new x v is (suc n) others (λ arm con' slots body' a. behind arm con' slots body' (later_arm a)) l) (is_built con v) refl l
      where
        go : (Leads s (into_arm s i inv v others) new → Next p new i q trail) → (b : Bool) → is_built con v ≡ b
            → Leads s (if b then Moved (with_invocation s i (record (with_fields inv places v) { left = body })) else into_arm s i inv v others) new → Next p new i q trail
        go rest true e l =
            let k = built-con con v e in
            moves-on new inv (filled places k.0 inv.slots) body s.generated (HasTakenArm x n con places k.0 ∷ [])
            (came-arm p s i q inv trail on.came x n con places k.0 body (is ∙ k.1)) (behind n con places body first_arm)
            (l ∙ ap (λ v. with_invocation s i (record (with_fields inv places v) { left = body })) k.1)
        go rest false e l = rest l

    local-next : (new : State) (code : Code) → inv.left ≡ code → Leads s (local p s i inv code) new → Next p new i q trail
    local-next new (left.Put slot e next) is l =
        let v = value (at_invocation p s inv) [] e in
        moves-on new inv (slice_set inv.slots slot (Some v)) next s.generated (HasPut slot e v ∷ [])
        (came-put p s i q inv trail on.came slot e next (slice_set inv.slots slot (Some v)) refl) (past_put (behind-at inv on (left.Put slot e next) is)) l
    local-next new (left.Decide slot f next) is l =
        let b = truth (at_invocation p s inv) [] f in
        moves-on new inv (slice_set inv.slots slot (Some (truth_val b))) next s.generated (HasDecided slot f b ∷ [])
        (came-decide p s i q inv trail on.came slot f next (slice_set inv.slots slot (Some (truth_val b))) refl) (past_decide (behind-at inv on (left.Decide slot f next) is)) l
    local-next new (left.Assert at f next) is l = go (truth (at_invocation p s inv) [] f) l
      where
        go : (b : Bool) → Leads s (if b then Moved (with_invocation s i (record inv { left = next })) else Violated (Assertion at)) new → Next p new i q trail
        go true l = moves-on new inv inv.slots next s.generated [] (came-pass p s i q inv trail on.came next) (past_assert (behind-at inv on (left.Assert at f next) is)) l
        go false l = absurd l
    local-next new (left.Choose f then_ else_) is l = go (truth (at_invocation p s inv) [] f) refl
      where
        behind : Leaves (proc_code q) (path_of trail) (left.Choose f then_ else_)
        behind = behind-at inv on (left.Choose f then_ else_) is

        go : (b : Bool) → truth (at_invocation p s inv) [] f ≡ b → Next p new i q trail
        go true e =
            moves-on new inv inv.slots then_ s.generated (HasTaken f true ∷ []) (came-take p s i q inv trail on.came f true then_ e) (past_then behind)
            (l ∙ ap (λ b. with_invocation s i (record inv { left = (if b then then_ else else_) })) e)
        go false e =
            moves-on new inv inv.slots else_ s.generated (HasTaken f false ∷ []) (came-take p s i q inv trail on.came f false else_ e) (past_else behind)
            (l ∙ ap (λ b. with_invocation s i (record inv { left = (if b then then_ else else_) })) e)
    local-next new (left.Match x arms) is l =
        arm-next new x (value (at_invocation p s inv) [] x) refl 1 arms (λ arm con slots body a. past_arm (behind-at inv on (left.Match x arms) is) a) l
    local-next new _ is l = same-next new inv on l

  -- # Each label

  module _ (new : State) (inv : Invocation) (on : IsOn p s i q inv trail) where
    other : (v : Invocation) → At s.invocations i v → IsOn p s i q v trail
    other v at = at-inv p s i q inv v trail on at

    begin-next : (stamp : ℕ) (sees : List ℕ) → Leads s (step p s (Begin i stamp sees)) new → Next p new i q trail
    begin-next stamp sees l = elim (step-moves p s (Begin i stamp sees) new valid.formed.history l) [
      | inl same ↦ same-next new inv on same
      | inr m ↦ go m.0 m.1 m.2 (other m.0 m.2.is) m.4 m.6
    ]
      where
        go : (v : Invocation) (next : Code) → Acts s i v (left.Begin next) → IsOn p s i q v trail → ((c : ℕ) (call : Call) → At s.calls c call → v.view c ≡ true → is_in sees call.tx ≡ true)
            → new ≡ begun s i stamp sees v next → Next p new i q trail
        go v next acts on' keeps e =
            let none : v.tx ≡ None = is-none v.tx (fits-at p s i v (left.Begin next) valid.formed acts).0 in
            subst (λ n. Next p n i q trail) (sym e) (inl (
              record v { view = calls_of s.calls sees; tx = Some (length s.txs); left = next },
              HasBegun (length s.calls) (length s.txs) ∷ [],
              came-begin p s i q v trail on'.came valid stamp sees next none keeps,
              past_begin (behind-at v on' (left.Begin next) acts.point),
            ))

    op-next : (stamp : ℕ) → Leads s (step p s (Op i stamp)) new → Next p new i q trail
    op-next stamp l = elim (step-moves p s (Op i stamp) new valid.formed.history l) [
      | inl same ↦ same-next new inv on same
      | inr m ↦ go m.0 m.1 m.2 m.3 m.4 m.5 (other m.0 m.5.is) m.6 m.8
    ]
      where
        go : (v : Invocation) (op : ℕ) (args : Exs) (next : Code) (t : ℕ) → Acts s i v (left.Operate op args next) → IsOn p s i q v trail → v.tx ≡ Some t
            → new ≡ operated s i stamp v t op (list_of (values (at_invocation p s v) [] args)) next → Next p new i q trail
        go v op args next t acts on' is e =
            subst (λ n. Next p n i q trail) (sym e) (inl (
              record v { left = next },
              HasOperated op args (list_of (values (at_invocation p s v) [] args)) (length s.calls) ∷ [],
              came-op p s i q v trail on'.came valid stamp op args next t is,
              past_operate (behind-at v on' (left.Operate op args next) acts.point),
            ))

    new-next : (id : Val) → Leads s (step p s (New i id)) new → Next p new i q trail
    new-next id l = elim (step-moves p s (New i id) new valid.formed.history l) [
      | inl same ↦ same-next new inv on same
      | inr m ↦
          let v : Invocation = m.0 in
          let on' : IsOn p s i q v trail = other m.0 m.4.is in
          let fit = fits-at p s i v (left.New m.1 m.2 m.3) valid.formed m.4 in
          moves-on new v (slice_set v.slots m.1 (Some id)) m.3 (s.generated ++ id ∷ []) (HasMade m.1 m.2 id ∷ [])
          (came-new p s i q v trail on'.came valid.formed m.1 m.2 m.3 id (id-of p m.2 id fit.0 m.6) (same_val_itself id) m.5 m.6)
          (past_new (behind-at v on' (left.New m.1 m.2 m.3) m.4.point)) m.8
    ]

    local-label : Leads s (step p s (Local i)) new → Next p new i q trail
    local-label l = elim (acted s new i _ (accepted-effect s new (refusal p s (Local i)) (effect p s (Local i)) l)) [
      | inl same ↦ same-next new inv on same
      | inr a ↦ local-next a.0 (other a.0 a.1) new a.0.left refl a.2
    ]

    commit-next : Leads s (step p s (Commit i)) new → Next p new i q trail
    commit-next l = elim (acted s new i _ (accepted-effect s new (refusal p s (Commit i)) (effect p s (Commit i)) l)) [
      | inl same ↦ same-next new inv on same
      | inr a ↦ elim (commit-code s new i a.0 a.0.tx a.0.left a.2) [
        | inl same ↦ same-next new inv on same
        | inr m ↦ go a.0 (other a.0 a.1) m.0 m.1 m.2 m.3 m.4 m.5
      ]
    ]
      where
        go : (v : Invocation) → IsOn p s i q v trail → (t : ℕ) (at : Span) (next : Code) → v.tx ≡ Some t → v.left ≡ left.End at next → new ≡ committed s i v t next → Next p new i q trail
        go v on' t at next is point e =
            subst (λ n. Next p n i q trail) (sym e) (inl (
              record v { view = reading_set s.calls v; tx = None; left = next },
              HasEnded ∷ [],
              came-commit p s i q v trail on'.came valid t next is,
              past_end (behind-at v on' (left.End at next) point),
            ))

    return-next : Leads s (step p s (Return i)) new → Next p new i q trail
    return-next l = elim (acted s new i _ (accepted-effect s new (refusal p s (Return i)) (effect p s (Return i)) l)) [
      | inl same ↦ same-next new inv on same
      | inr a ↦ elim (return-code p s new i a.0 a.0.left a.2) [
        | inl same ↦ same-next new inv on same
        | inr m ↦ inr (stopped s new i a.0 (record a.0 { standing = Returned (option_map (value (at_invocation p s a.0) []) m.1) }) a.1 m.3
            (not-running (option_map (value (at_invocation p s a.0) []) m.1)))
      ]
    ]

    fail-next : Leads s (step p s (Fail i)) new → Next p new i q trail
    fail-next l = elim (step-moves p s (Fail i) new valid.formed.history l) [
      | inl same ↦ same-next new inv on same
      | inr m ↦ inr (stopped s new i m.0 (record m.0 { standing = Failed }) m.1.is m.2 not-failed)
    ]

    pub label-next : (label : Label) → named label ≡ Some i → Leads s (step p s label) new → Next p new i q trail
    label-next (Invoke proc args) names l = absurd (none-some i names)
    label-next (Begin j stamp sees) names l = begin-next stamp sees (subst (λ j. Leads s (step p s (Begin j stamp sees)) new) (same_Some j i names) l)
    label-next (Op j stamp) names l = op-next stamp (subst (λ j. Leads s (step p s (Op j stamp)) new) (same_Some j i names) l)
    label-next (Local j) names l = local-label (subst (λ j. Leads s (step p s (Local j)) new) (same_Some j i names) l)
    label-next (New j id) names l = new-next id (subst (λ j. Leads s (step p s (New j id)) new) (same_Some j i names) l)
    label-next (Commit j) names l = commit-next (subst (λ j. Leads s (step p s (Commit j)) new) (same_Some j i names) l)
    label-next (Return j) names l = return-next (subst (λ j. Leads s (step p s (Return j)) new) (same_Some j i names) l)
    label-next (Fail j) names l = fail-next (subst (λ j. Leads s (step p s (Fail j)) new) (same_Some j i names) l)
    label-next (Check sees) names l = absurd (none-some i names)
