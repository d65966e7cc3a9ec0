-- The goals of a program are met, shown by hand.
use Rattle.std.proofs.Common.{◌≡◌, ◌≢◌, ℕ, zero, suc, ◌<◌, Bool, true, false, ◌||◌, not, List, [], ◌∷◌, All, length, refl, ap, sym, ◌∙◌, subst, arith, nat_eq, slice_get, ◌⊎◌, inl, inr, true≢false, eqb-true, eq-eqb}
use Rattle.std.specs.declared.option.Option.{Option}
use Rattle.std.specs.declared.option.Option.TheVariants.{Some}
use Rattle.std.proofs.lemmas.Bool.{and_parts}
use Rattle.std.proofs.lemmas.List.Elements.{All-from_recursion}
use Rattle.rp_value.specs.Values.{Atom, no_val, also_val}
use Rattle.rp_value.specs.ValueView.{vals_of}
use Rattle.rp_lang.specs.Programs.{Proc, Prog}
use Rattle.crdt_defs.specs.Calls.{Call}
use Rattle.crdt_defs.specs.Counting.{all_below}
use Rattle.crdt_defs.specs.Histories.{call_is}
use Rattle.crdt_defs.specs.Snapshots.{bit}
use Rattle.crdt_defs.specs.Truths.{Operation, operation_of, same_meant, truth}
use Rattle.event_machine.specs.Code.{Code}
use Rattle.event_machine.specs.Machine.{Invocation, Tx, State, Invoke, Commit, Return, is_in, own_calls, at_snapshot, committed, refusal, effect}
use Rattle.event_machine.specs.WellFormed.{At, opened_by, commits_of}
use Rattle.event_machine.proofs.PlaceLemmas.{at-one, or-cases, or-left, or-right, in-own}
use Rattle.event_machine.proofs.MoveLemmas.{and-make, by-cases, acted, step-moves}
use Rattle.one_invocation.specs.Trails.{Way, Operate, Done, HasOperated, HasBegun, path_of, own}
use Rattle.one_invocation.specs.CameAlong.{Start, start_of, Follows}
use Rattle.event_machine.specs.OldCalls.{old}
use Rattle.one_invocation.specs.Goals.{goals, Stands, IsMet}
use Rattle.rp_lang.specs.rows.Samples.{norem}
use Rattle.one_invocation.specs.rows.Programs.{only_adds}
use Rattle.one_invocation.proofs.TrailFacts.{new-committed}
use Rattle.one_invocation.proofs.TrailSteps.{accepted-effect, commit-code, return-code}

abbrev p : Prog
p = only_adds

all-get : (f : ℕ → Bool) (n c : ℕ) → all_below f n ≡ true → c < n → f c ≡ true
all-get f zero c h l = absurd (omega (arith, l))
all-get f (suc n) c h l = go (λ m. all-get f n c (and_parts (f n) (all_below f n) h).1 m) (nat_eq c n) refl
  where
    go : (c < n → f c ≡ true) → (b : Bool) → nat_eq c n ≡ b → f c ≡ true
    go rest true e = ap f (eqb-true c n e) ∙ (and_parts (f n) (all_below f n) h).0
    go rest false e = let q = neq c n e in rest (omega (arith, l, q))
      where
        neq : (a b : ℕ) → nat_eq a b ≡ false → a ≢ b
        neq a b e q = true≢false (sym (eq-eqb a b q) ∙ e)

all-make : (f : ℕ → Bool) (n : ℕ) → ((c : ℕ) → c < n → f c ≡ true) → all_below f n ≡ true
all-make f zero h = refl
all-make f (suc n) h = and-make (f n) (all_below f n) (h n (omega arith)) (all-make f n (λ c l. h c (omega (arith, l))))

-- no identifier below u makes the call a removal
abbrev Keeps : ℕ → Option Call → Bool
Keeps u o = all_below (λ n. not true || not (same_meant (operation_of o) (Operation 2 (also_val (Atom 0 n) no_val)))) u

abbrev Body : State → ℕ → Bool
Body s c = not (call_is s.calls (λ call. bit (commits_of s.txs) call.tx) c) || Keeps s.universe (slice_get s.calls c)

keeps-other : (u : ℕ) (call : Call) → (call.op ≡ 0) ⊎ (call.op ≡ 1) → Keeps u (Some call) ≡ true
keeps-other u call op = all-make _ u (λ n l. elim op [
  | inl e ↦ ap (λ k. not (same_meant (Operation k (vals_of call.args)) (Operation 2 (also_val (Atom 0 n) no_val)))) e
  | inr e ↦ ap (λ k. not (same_meant (Operation k (vals_of call.args)) (Operation 2 (also_val (Atom 0 n) no_val)))) e
])

-- the operations of a path
abbrev ops_of : List Way → List ℕ
ops_of [] = []
ops_of (Operate op args ∷ path) = op ∷ ops_of path
ops_of (_ ∷ path) = ops_of path

-- an own call is a marker, or one of the path's operations
own-op : (a : Start) (h : List Call) (trail : List Done) → Follows a h trail → (c : ℕ) (call : Call) → At h c call → is_in (own trail) c ≡ true
    → (call.op ≡ 0) ⊎ (is_in (ops_of (path_of trail)) call.op ≡ true)
own-op a h [] f c call at m = absurd (true≢false (sym m))
own-op a h (HasBegun k tx ∷ earlier) f c call at m = elim (or-cases (nat_eq k c) (is_in (own earlier) c) m) [
  | inl q ↦ inl (ap (λ (x : Call). x.op) (at-one h c call f.0.0.call at (subst (λ k. At h k f.0.0.call) (eqb-true k c q) f.0.0.at)) ∙ f.0.0.op_is)
  | inr q ↦ own-op a h earlier f.1 c call at q
]
own-op a h (HasOperated op args vs k ∷ earlier) f c call at m = elim (or-cases (nat_eq k c) (is_in (own earlier) c) m) [
  | inl q ↦
      let o = f.0.1.2 in
      let e = ap (λ (x : Call). x.op) (at-one h c call o.call at (subst (λ k. At h k o.call) (eqb-true k c q) o.at)) ∙ o.op_is in
      inr (or-left (nat_eq op call.op) (is_in (ops_of (path_of earlier)) call.op) (eq-eqb op call.op (sym e)))
  | inr q ↦ elim (own-op a h earlier f.1 c call at q) [
    | inl e ↦ inl e
    | inr e ↦ inr (or-right (nat_eq op call.op) (is_in (ops_of (path_of earlier)) call.op) e)
  ]
]
own-op a h (_ ∷ earlier) f c call at m = own-op a h earlier f.1 c call at m

-- the commit of `add`: what it commits is its marker and an addition
commits-well : (s : State) (i : ℕ) (q : Proc) (inv : Invocation) (trail : List Done) (path : List Way) (t : ℕ) (next : Code) (w : ℕ → Bool)
    → Stands p s i q inv trail 0 path → ops_of path ≡ 1 ∷ [] → inv.tx ≡ Some t → truth (at_snapshot p (committed s i inv t next) w) [] norem.body ≡ true
commits-well s i q inv trail path t next w st ops is = all-make (Body new) (length s.calls) each
  where
    new : State
    new = committed s i inv t next

    own-keeps : (c : ℕ) → own_calls s.calls (Some t) c ≡ true → Keeps s.universe (slice_get s.calls c) ≡ true
    own-keeps c m =
        let k = in-own s.calls t c m in
        let u = st.valid.formed.history.has_tx c k.0 k.1 in
        let mine = st.valid.formed.linked.still_open i t inv st.came.is is in
        let of : k.0.inv ≡ i = u.2 ∙ ap (λ (x : Tx). x.inv) (at-one s.txs t u.0 (opened_by i) (subst (λ t. At s.txs t u.0) k.2 u.1) mine) in
        let op = own-op (start_of p s i q inv) s.calls trail st.came.follows c k.0 k.1 (st.came.all c k.0 k.1 of) in
        subst (λ o. Keeps s.universe o ≡ true) (sym k.1) (keeps-other s.universe k.0 (elim op [
          | inl e ↦ inl e
          | inr e ↦ inr (one-of (ap (λ xs. is_in xs k.0.op) (sym ops ∙ ap ops_of (sym st.along)) ∙ e))
        ]))
      where
        one-of : {k : ℕ} → is_in (1 ∷ []) k ≡ true → k ≡ 1
        one-of {k = k} e = elim (or-cases (nat_eq 1 k) false e) [ inl q ↦ sym (eqb-true 1 k q) | inr none ↦ absurd (true≢false (sym none)) ]

    each : (c : ℕ) → c < length s.calls → Body new c ≡ true
    each c l = elim (by-cases (old new c)) [
      | inr e ↦ ap (λ b. not b || Keeps s.universe (slice_get s.calls c)) e
      | inl e ↦ ap (λ b. not b || Keeps s.universe (slice_get s.calls c)) e ∙ elim (or-cases (old s c) (own_calls s.calls (Some t) c) (sym (new-committed p s i t inv next st.valid st.came.is is c) ∙ e)) [
        | inl before ↦ ap (λ b. not b || Keeps s.universe (slice_get s.calls c)) (sym before) ∙ all-get (Body s) (length s.calls) c (st.at_old 0 norem refl) l
        | inr mine ↦ own-keeps c mine
      ]
    ]

pub only_adds-met : All (IsMet p) (goals p)
only_adds-met = All-from_recursion (IsMet p) (goals p) (
  (λ universe w one snapshot. refl),
  (
    (λ s args new valid at_old l w snapshot held. elim (step-moves p s (Invoke 0 args) new valid.formed.history l) [
      | inl same ↦ subst (λ n. truth (at_snapshot p n w) [] norem.body ≡ true) (sym same) (at_old 0 norem refl)
      | inr m ↦ subst (λ n. truth (at_snapshot p n w) [] norem.body ≡ true) (sym m.4) (at_old 0 norem refl)
    ]),
    (
      (λ s i q inv trail next new st point l w snapshot held. elim (acted s new i _ (accepted-effect s new (refusal p s (Commit i)) (effect p s (Commit i)) l)) [
        | inl same ↦ subst (λ n. truth (at_snapshot p n w) [] norem.body ≡ true) (sym same) (st.at_old 0 norem refl)
        | inr a ↦ elim (commit-code s new i a.0 a.0.tx a.0.left a.2) [
          | inl same ↦ subst (λ n. truth (at_snapshot p n w) [] norem.body ≡ true) (sym same) (st.at_old 0 norem refl)
          | inr m ↦
              let same : a.0 ≡ inv = at-one s.invocations i a.0 inv a.1 st.came.is in
              subst (λ n. truth (at_snapshot p n w) [] norem.body ≡ true) (sym (m.5 ∙ ap (λ v. committed s i v m.0 m.2) same))
              (commits-well s i q inv trail _ m.0 m.2 w st refl (ap (λ (v : Invocation). v.tx) (sym same) ∙ m.3))
        ]
      ]),
      (
        (λ s i q inv trail new st point l w snapshot held. elim (acted s new i _ (accepted-effect s new (refusal p s (Return i)) (effect p s (Return i)) l)) [
          | inl same ↦ subst (λ n. truth (at_snapshot p n w) [] norem.body ≡ true) (sym same) (st.at_old 0 norem refl)
          | inr a ↦ elim (return-code p s new i a.0 a.0.left a.2) [
            | inl same ↦ subst (λ n. truth (at_snapshot p n w) [] norem.body ≡ true) (sym same) (st.at_old 0 norem refl)
            | inr m ↦ subst (λ n. truth (at_snapshot p n w) [] norem.body ≡ true) (sym m.3) (st.at_old 0 norem refl)
          ]
        ]),
        tt,
      ),
    ),
  ),
)
