-- The induction over runs: where each invocation is safe by itself, every run is.
use Rattle.std.proofs.Common.{◌≡◌, ◌≢◌, ℕ, zero, suc, ◌+◌, ◌≤◌, Bool, true, false, if◌then◌else◌, List, [], ◌∷◌, ◌++◌, length, refl, ap, sym, ◌∙◌, subst, slice_get, slice_set, nat_lt, ltb-true, option_and_then, inl, inr, true≢false}
use Rattle.std.specs.Option.{option_map_or}
use Rattle.std.specs.declared.option.Option.{Option}
use Rattle.std.specs.declared.option.Option.TheVariants.{None, Some}
use Rattle.std.proofs.lemmas.Option.{none-some, same_Some}
use Rattle.rp_value.specs.Values.{Val}
use Rattle.rp_lang.specs.Programs.{Inv, Proc, Prog}
use Rattle.rp_lang.specs.WellFormed.{is_well_formed}
use Rattle.crdt_defs.specs.Truths.{Reading, truth}
use Rattle.event_machine.specs.Machine.{Invocation, State, empty, Label, Invoke, Begin, Op, Local, New, Commit, Return, Fail, Check, Why, NoInvocation, NotRunning, What, Invariant, Answer, Moved, Violated, unless, is_running, calls_of, at_snapshot, named, started, checked, effect, refusal, unless_refused, step}
use Rattle.event_machine.specs.Runs.{Leads, Run, Violates, IsSafe}
use Rattle.event_machine.specs.WellFormed.{At, IsWellFormed}
use Rattle.event_machine.specs.Growth.{IsValid, Grows}
use Rattle.event_machine.specs.LocalSafety.{HoldsAll, IsRunning, SafeFor, IsLocallySafe, StartsSafe}
use Rattle.event_machine.proofs.PlaceLemmas.{at-push, at-one, at-set, at-exists, same-or}
use Rattle.event_machine.proofs.ViewLemmas.{snapshot-closed, snapshot-sees}
use Rattle.event_machine.proofs.MoveLemmas.{Does, Free, free, unless-none, running-at, sees-ok, step-moves}
use Rattle.event_machine.proofs.ProgramFits.{procs-fit}
use Rattle.event_machine.proofs.TypedKept.{empty-typed, step-typed}
use Rattle.event_machine.proofs.KeptLemmas.{step-formed, empty-formed}
use Rattle.event_machine.proofs.GrowthLemmas.{grows-itself, grows-further, step-grows}

-- # Growth carries local safety on

pub safe-grows : (p : Prog) (n : ℕ) (s new : State) (i : ℕ) (inv : Invocation) → At s.invocations i inv → Grows p s new i → SafeFor p n s i → SafeFor p n new i
safe-grows p zero s new i inv at g h = tt
safe-grows p (suc n) s new i inv at g h = λ run mid further holds label named.
    let same : run.0 ≡ inv = at-one new.invocations i run.0 inv run.1 (g.same inv at) in
    h (inv, at, ap (λ (v : Invocation). v.standing) (sym same) ∙ run.2) mid (grows-further p s new mid i g further) holds label named

-- only of a running invocation anything is to be shown
safe-running : (p : Prog) (n : ℕ) (s : State) (i : ℕ) → (IsRunning s i → SafeFor p n s i) → SafeFor p n s i
safe-running p zero s i h = tt
safe-running p (suc n) s i h = λ run. h run run

-- # What isn't refused is a label of a running invocation

pub running-here : (p : Prog) (s : State) (label : Label) (i : ℕ) → named label ≡ Some i → refusal p s label ≡ None → IsRunning s i
running-here p s label i names none =
    let f = free p s label none in
    let there : unless (nat_lt i (length s.invocations)) (NoInvocation i) ≡ None =
    subst (λ o. option_and_then (λ i. unless (nat_lt i (length s.invocations)) (NoInvocation i)) o ≡ None) names f.there in
    let found = at-exists s.invocations i (ltb-true i (length s.invocations) (unless-none (nat_lt i (length s.invocations)) (NoInvocation i) there)) in
    let ready : option_and_then (λ inv. unless (is_running inv.standing) (NotRunning i)) (slice_get s.invocations i) ≡ None =
    subst (λ o. option_and_then (λ i. option_and_then (λ inv. unless (is_running inv.standing) (NotRunning i)) (slice_get s.invocations i)) o ≡ None) names f.stands_ready in
    (found.0, found.1, running-at s i found.0 found.1 ready)

pub accepted : (s new : State) (why : Option Why) (answer : Answer) → Leads s (unless_refused why answer) new → why ≡ None
accepted s new None answer l = refl
accepted s new (Some why) answer l = absurd l

violated : (why : Option Why) (answer : Answer) → Violates (unless_refused why answer) → (why ≡ None) × Violates answer
violated None answer v = (refl, v)
violated (Some why) answer v = let e = v.1 in cc

-- # Invocations that aren't named stay

one-changed : (p : Prog) (s : State) (label : Label) (new : State) (i : ℕ) → named label ≡ Some i → Does p s label new → (after : Invocation) × (new.invocations ≡ slice_set s.invocations i after)
one-changed p s (Invoke proc args) new i names m = absurd (none-some i names)
one-changed p s (Begin j stamp sees) new i names m = subst (λ k. (after : Invocation) × (new.invocations ≡ slice_set s.invocations k after)) (same_Some j i names) (_, ap (λ (s : State). s.invocations) m.6)
one-changed p s (Op j stamp) new i names m = subst (λ k. (after : Invocation) × (new.invocations ≡ slice_set s.invocations k after)) (same_Some j i names) (_, ap (λ (s : State). s.invocations) m.8)
one-changed p s (Local j) new i names m = subst (λ k. (after : Invocation) × (new.invocations ≡ slice_set s.invocations k after)) (same_Some j i names) (_, ap (λ (s : State). s.invocations) m.4)
one-changed p s (New j id) new i names m = subst (λ k. (after : Invocation) × (new.invocations ≡ slice_set s.invocations k after)) (same_Some j i names) (_, ap (λ (s : State). s.invocations) m.8)
one-changed p s (Commit j) new i names m = subst (λ k. (after : Invocation) × (new.invocations ≡ slice_set s.invocations k after)) (same_Some j i names) (_, ap (λ (s : State). s.invocations) m.8)
one-changed p s (Return j) new i names m = subst (λ k. (after : Invocation) × (new.invocations ≡ slice_set s.invocations k after)) (same_Some j i names) (_, ap (λ (s : State). s.invocations) m.4)
one-changed p s (Fail j) new i names m = subst (λ k. (after : Invocation) × (new.invocations ≡ slice_set s.invocations k after)) (same_Some j i names) (_, ap (λ (s : State). s.invocations) m.2)
one-changed p s (Check sees) new i names m = absurd m

-- another invocation was there before
was-there : (p : Prog) (s : State) (label : Label) (new : State) (i j : ℕ) (inv : Invocation) → named label ≡ Some i → IsWellFormed p s → Leads s (step p s label) new → j ≢ i → At new.invocations j inv → At s.invocations j inv
was-there p s label new i j inv names h l other at = elim (step-moves p s label new h.history l) [
  | inl same ↦ subst (λ (s : State). At s.invocations j inv) same at
  | inr does ↦
      let c = one-changed p s label new i names does in
      elim (at-set s.invocations i c.0 j inv (subst (λ xs. At xs j inv) c.1 at)) [ inl e ↦ absurd (other e.0) | inr e ↦ e.1 ]
]

-- # States of runs

pub record IsGood (p : Prog) (s : State) : Type 0 where
  pub valid : IsValid p s
  pub holds : HoldsAll p s
  pub safe : (i : ℕ) → IsLocallySafe p s i

named-good : (p : Prog) → is_well_formed p ≡ true → (s : State) (label : Label) (new : State) (i : ℕ) → named label ≡ Some i → IsGood p s → Leads s (step p s label) new → IsGood p new
named-good p w s label new i names g l = record {
  valid = record { formed = step-formed p (procs-fit p w) s label new g.valid.formed l; typed = step-typed p w s label new g.valid.typed l };
  holds = ((g.safe i 1 run s (grows-itself p s i g.valid) g.holds label names).0 new l).0;
  safe = λ j n. elim (same-or j i) [
    | inl e ↦ subst (SafeFor p n new) (sym e) ((g.safe i (suc n) run s (grows-itself p s i g.valid) g.holds label names).0 new l).1
    | inr other ↦ rest j n other
  ];
}
  where
    run : IsRunning s i
    run = running-here p s label i names (accepted s new (refusal p s label) (effect p s label) l)

    rest : (j n : ℕ) → j ≢ i → SafeFor p n new j
    rest j n other = safe-running p n new j (λ run.
        safe-grows p n s new j run.0 (was-there p s label new i j run.0 names g.valid.formed l other run.1)
        (step-grows p w s label new j g.valid l (λ e. other (same_Some j i (sym e ∙ names)))) (g.safe j n))

invoke-good : (p : Prog) → is_well_formed p ≡ true → StartsSafe p → (s : State) (proc : ℕ) (args : List Val) (new : State) → IsGood p s → Leads s (step p s (Invoke proc args)) new → IsGood p new
invoke-good p w shown s proc args new g l = record {
  valid = record { formed = step-formed p (procs-fit p w) s (Invoke proc args) new g.valid.formed l; typed = step-typed p w s (Invoke proc args) new g.valid.typed l };
  holds = k.0;
  safe = λ j n. safe-running p n new j (λ run. elim (step-moves p s (Invoke proc args) new g.valid.formed.history l) [
    | inl same ↦ old j n run.0 (subst (λ (s : State). At s.invocations j run.0) same run.1)
    | inr m ↦ elim (at-push s.invocations (started m.0 proc args) j run.0 (subst (λ (s : State). At s.invocations j run.0) m.4 run.1)) [
      | inl e ↦ old j n run.0 e
      | inr e ↦ subst (SafeFor p n new) (sym e.0) (k.1 n)
    ]
  ]);
}
  where
    k : HoldsAll p new × IsLocallySafe p new (length s.invocations)
    k = shown.invoke s proc args new g.valid g.holds l

    old : (j n : ℕ) (inv : Invocation) → At s.invocations j inv → SafeFor p n new j
    old j n inv at = safe-grows p n s new j inv at (step-grows p w s (Invoke proc args) new j g.valid l (λ e. none-some j e)) (g.safe j n)

check-same : (p : Prog) (s : State) (sees : List ℕ) (new : State) → IsWellFormed p s → Leads s (step p s (Check sees)) new → new ≡ s
check-same p s sees new h l = elim (step-moves p s (Check sees) new h.history l) [ inl same ↦ same | inr does ↦ absurd does ]

step-good : (p : Prog) → is_well_formed p ≡ true → StartsSafe p → (s : State) (label : Label) (new : State) → IsGood p s → Leads s (step p s label) new → IsGood p new
step-good p w shown s (Invoke proc args) new g l = invoke-good p w shown s proc args new g l
step-good p w shown s (Begin i stamp sees) new g l = named-good p w s (Begin i stamp sees) new i refl g l
step-good p w shown s (Op i stamp) new g l = named-good p w s (Op i stamp) new i refl g l
step-good p w shown s (Local i) new g l = named-good p w s (Local i) new i refl g l
step-good p w shown s (New i id) new g l = named-good p w s (New i id) new i refl g l
step-good p w shown s (Commit i) new g l = named-good p w s (Commit i) new i refl g l
step-good p w shown s (Return i) new g l = named-good p w s (Return i) new i refl g l
step-good p w shown s (Fail i) new g l = named-good p w s (Fail i) new i refl g l
step-good p w shown s (Check sees) new g l = subst (IsGood p) (sym (check-same p s sees new g.valid.formed l)) g

run-good : (p : Prog) → is_well_formed p ≡ true → StartsSafe p → (s : State) (labels : List Label) (new : State) → IsGood p s → Run p s labels new → IsGood p new
run-good p w shown s [] new g r = subst (IsGood p) (sym r) g
run-good p w shown s (label ∷ labels) new g r = run-good p w shown r.0 labels new (step-good p w shown s label r.0 g r.1) r.2

empty-good : (p : Prog) → StartsSafe p → (universe : ℕ) → 1 ≤ universe → IsGood p (empty universe)
empty-good p shown universe one = record {
  valid = record { formed = empty-formed p universe one; typed = empty-typed p universe };
  holds = shown.begin universe one;
  safe = λ i n. safe-running p n (empty universe) i (λ run. absurd (none-some run.0 run.1));
}

-- # No label violates

false-found : (r : Reading) (n : ℕ) (invs : List Inv) (what : What) → checked r n invs ≡ Violated what → (k : ℕ) × (inv : Inv) × At invs k inv × (truth r [] inv.body ≡ false)
false-found r n [] what e = cc
false-found r n (inv ∷ others) what e = go (λ e. false-found r (n + 1) others what e) (truth r [] inv.body) refl e
  where
    go : (checked r (n + 1) others ≡ Violated what → (k : ℕ) × (inv : Inv) × At others k inv × (truth r [] inv.body ≡ false))
        → (b : Bool) → truth r [] inv.body ≡ b → (if b then checked r (n + 1) others else Violated (Invariant n)) ≡ Violated what
        → (k : ℕ) × (found : Inv) × At (inv ∷ others) k found × (truth r [] found.body ≡ false)
    go rest true is e = let f = rest e in (suc f.0, f.1, f.2, f.3)
    go rest false is e = (zero, inv, refl, is)

named-never : (p : Prog) (s : State) (label : Label) (i : ℕ) → named label ≡ Some i → IsGood p s → Violates (step p s label) → ⊥
named-never p s label i names g v =
    let run = running-here p s label i names (violated (refusal p s label) (effect p s label) v).0 in
    (g.safe i 1 run s (grows-itself p s i g.valid) g.holds label names).1 v

invoke-never : (p : Prog) (s : State) (proc : ℕ) (args : List Val) → Violates (effect p s (Invoke proc args)) → ⊥
invoke-never p s proc args v = go (slice_get p.procs proc) v
  where
    go : (o : Option Proc) → Violates (option_map_or (λ q. Moved (record s { invocations = s.invocations ++ started q proc args ∷ [] })) o (Moved s)) → ⊥
    go None v = let e = v.1 in cc
    go (Some q) v = let e = v.1 in cc

check-never : (p : Prog) (s : State) (sees : List ℕ) → IsGood p s → Violates (step p s (Check sees)) → ⊥
check-never p s sees g v =
    let k = violated (refusal p s (Check sees)) (effect p s (Check sees)) v in
    let f : Free p s (Check sees) = free p s (Check sees) k.0 in
    let seen = sees-ok s sees (λ c. false) g.valid.formed.history f.all_committed f.all_closed in
    let bad = false-found (at_snapshot p s (calls_of s.calls sees)) 0 p.invs k.1.0 k.1.1 in
    let snapshot = snapshot-closed s.calls s.txs (calls_of s.calls sees) (snapshot-sees s sees g.valid.formed.history seen) in
    true≢false (sym (g.holds (calls_of s.calls sees) snapshot bad.0 bad.1 bad.2) ∙ bad.3)

never : (p : Prog) (s : State) (label : Label) → IsGood p s → Violates (step p s label) → ⊥
never p s (Invoke proc args) g v = invoke-never p s proc args (violated (refusal p s (Invoke proc args)) (effect p s (Invoke proc args)) v).1
never p s (Begin i stamp sees) g v = named-never p s (Begin i stamp sees) i refl g v
never p s (Op i stamp) g v = named-never p s (Op i stamp) i refl g v
never p s (Local i) g v = named-never p s (Local i) i refl g v
never p s (New i id) g v = named-never p s (New i id) i refl g v
never p s (Commit i) g v = named-never p s (Commit i) i refl g v
never p s (Return i) g v = named-never p s (Return i) i refl g v
never p s (Fail i) g v = named-never p s (Fail i) i refl g v
never p s (Check sees) g v = check-never p s sees g v

pub safe-starts : (p : Prog) → is_well_formed p ≡ true → StartsSafe p → IsSafe p
unfolding IsSafe
safe-starts p w shown universe labels s label one run v =
    never p s label (run-good p w shown (empty universe) labels s (empty-good p shown universe one) run) v
