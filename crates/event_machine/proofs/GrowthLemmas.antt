-- Growth is reflexive and transitive, and each label of another invocation is one.
use Rattle.std.proofs.Common.{◌≡◌, ◌≢◌, ℕ, ◌-◌, true, List, [], ◌∷◌, ◌++◌, length, refl, ap, sym, ◌∙◌, subst, slice_set, ◌⊎◌, inl, inr, true≢false}
use Rattle.std.specs.declared.option.Option.{Option}
use Rattle.std.specs.declared.option.Option.TheVariants.{None, Some}
use Rattle.rp_value.specs.Values.{Val}
use Rattle.rp_lang.specs.Programs.{Proc, Prog}
use Rattle.rp_lang.specs.WellFormed.{is_well_formed}
use Rattle.crdt_defs.specs.Calls.{Call}
use Rattle.crdt_defs.specs.Truths.{list_of, values}
use Rattle.event_machine.specs.Machine.{Standing, Running, Failed, Invocation, Tx, State, Label, Invoke, Begin, Op, Local, New, Commit, Return, Fail, Check, named, own_calls, reading_set, at_invocation, stands_in, is_generated, with_invocation, with_slot, started, begun, operated, committed, step}
use Rattle.event_machine.specs.Runs.{Leads}
use Rattle.event_machine.specs.WellFormed.{At, In, Committed, opened_by, Inside, InSlots, ProcsFit, IsWellFormed}
use Rattle.event_machine.specs.TypedStates.{IsTyped}
use Rattle.event_machine.specs.Growth.{IsPrivate, IsValid, StaysTx, Grows}
use Rattle.event_machine.proofs.PlaceLemmas.{at-push, at-keep, at-one, at-set, at-set_other, at-set_same, same-or, in-own, or-cases, any-found}
use Rattle.event_machine.proofs.CausalLemmas.{done_by}
use Rattle.event_machine.proofs.ViewLemmas.{closed-snapshot, marker_call}
use Rattle.event_machine.proofs.ReadLemmas.{From, list-from, any-left}
use Rattle.event_machine.proofs.SlotLemmas.{slots-set, slots-started}
use Rattle.event_machine.proofs.MoveLemmas.{Does, step-moves}
use Rattle.event_machine.proofs.ProgramFits.{procs-fit}
use Rattle.event_machine.proofs.TypedKept.{step-typed}
use Rattle.event_machine.proofs.KeptLemmas.{own_call, stands-id, result-from, does-formed}

pub grows-itself : (p : Prog) (s : State) (i : ℕ) → IsValid p s → Grows p s s i
grows-itself p s i h = record {
  before = h;
  after = h;
  universe = refl;
  calls = λ c call a. a;
  txs = λ t tx a. (tx, a, (refl, λ e. e));
  invs = λ j inv a. (inv, a, record { proc = refl; args = refl; ended = λ n. refl });
  generated = λ x g. g;
  same = λ inv a. a;
  others = λ c call a e. a;
  private = λ x h. h;
}

pub grows-further : (p : Prog) (a b c : State) (i : ℕ) → Grows p a b i → Grows p b c i → Grows p a c i
grows-further p a b c i g h = record {
  before = g.before;
  after = h.after;
  universe = g.universe ∙ h.universe;
  calls = λ n call m. h.calls n call (g.calls n call m);
  txs = λ t tx m.
      let k = g.txs t tx m in
      let l = h.txs t k.0 k.1 in
      (l.0, l.1, (k.2.0 ∙ l.2.0, λ e. l.2.1 (k.2.1 e)));
  invs = λ j inv m.
      let k = g.invs j inv m in
      let l = h.invs j k.0 k.1 in
      (l.0, l.1, record { proc = k.2.proc ∙ l.2.proc; args = k.2.args ∙ l.2.args; ended = λ n. l.2.ended (λ e. n (sym (k.2.ended n) ∙ e)) ∙ k.2.ended n });
  generated = λ x m. h.generated x (g.generated x m);
  same = λ inv m. h.same inv (g.same inv m);
  others = λ n call m e. g.others n call (h.others n call m e) e;
  private = λ x m. h.private x (g.private x m);
}

-- the common part of the labels that change one other invocation
grow-set : (p : Prog) (s n : State) (i j : ℕ) (old upd : Invocation) → IsValid p s → IsValid p n → j ≢ i → At s.invocations j old → old.standing ≡ Running → old.proc ≡ upd.proc → old.args ≡ upd.args → s.universe ≡ n.universe
    → n.invocations ≡ slice_set s.invocations j upd → ((c : ℕ) (call : Call) → At s.calls c call → At n.calls c call)
    → ((t : ℕ) (tx : Tx) → At s.txs t tx → (tx' : Tx) × At n.txs t tx' × StaysTx tx tx')
    → ((x : Val) → is_generated s x ≡ true → is_generated n x ≡ true)
    → ((c : ℕ) (call : Call) → At n.calls c call → At s.calls c call ⊎ (call.inv ≡ j))
    → ((c : ℕ) (x : Val) (call : Call) → IsPrivate s i x → At n.calls c call → Inside x call.args → At s.calls c call)
    → ((x : Val) → IsPrivate s i x → InSlots x upd.slots → ⊥)
    → ((x : Val) → IsPrivate s i x → stands_in x upd.standing ≡ true → ⊥)
    → Grows p s n i
grow-set p s n i j old upd h h' other at running proc args univ is calls txs gen of_j pcalls pslots presults = record {
  before = h;
  after = h';
  universe = univ;
  calls = calls;
  txs = txs;
  invs = λ k inv a. elim (same-or k j) [
    | inl e ↦
        let same : inv ≡ old = at-one s.invocations j inv old (subst (λ m. At s.invocations m inv) e a) at in (
          upd,
          subst (λ m. At n.invocations m upd) (sym e) (subst (λ xs. At xs j upd) (sym is) (at-set_same s.invocations j upd old at)),
          record {
            proc = ap (λ (v : Invocation). v.proc) same ∙ proc;
            args = ap (λ (v : Invocation). v.args) same ∙ args;
            ended = λ m. absurd (m (ap (λ (v : Invocation). v.standing) same ∙ running));
          },
        )
    | inr m ↦ (inv, subst (λ xs. At xs k inv) (sym is) (at-set_other s.invocations j upd k inv m a), record { proc = refl; args = refl; ended = λ _. refl })
  ];
  generated = gen;
  same = λ inv a. subst (λ xs. At xs i inv) (sym is) (at-set_other s.invocations j upd i inv (λ e. other (sym e)) a);
  others = λ c call a e. elim (of_j c call a) [ inl q ↦ q | inr q ↦ absurd (other (sym q ∙ e)) ];
  private = λ x q. record {
    generated = gen x q.generated;
    args = λ k inv a st. elim (at-set s.invocations j upd k inv (subst (λ xs. At xs k inv) is a)) [
      | inl e ↦ q.args j old at (subst (Inside x) (ap (λ (v : Invocation). v.args) e.1 ∙ sym args) st)
      | inr e ↦ q.args k inv e.1 st
    ];
    results = λ k inv a st. elim (at-set s.invocations j upd k inv (subst (λ xs. At xs k inv) is a)) [
      | inl e ↦ presults x q (ap (λ (v : Invocation). stands_in x v.standing) (sym e.1) ∙ st)
      | inr e ↦ q.results k inv e.1 st
    ];
    slots = λ k inv a st. elim (at-set s.invocations j upd k inv (subst (λ xs. At xs k inv) is a)) [
      | inl e ↦ absurd (pslots x q (subst (λ (v : Invocation). InSlots x v.slots) e.1 st))
      | inr e ↦ q.slots k inv e.1 st
    ];
    calls = λ c call a st.
        let k = q.calls c call (pcalls c x call q a st) st in
        (k.0, subst (λ xs. At xs i k.0) (sym is) (at-set_other s.invocations j upd i k.0 (λ e. other (sym e)) k.1), k.2);
  };
}

-- what j reads holds no identifier that is private to i
hidden : (p : Prog) (s : State) (i j : ℕ) (x : Val) (inv : Invocation) → IsWellFormed p s → j ≢ i → At s.invocations j inv → inv.standing ≡ Running → IsPrivate s i x → From (at_invocation p s inv) x → ⊥
hidden p s i j x inv h other at running q (inl slot) = other (q.slots j inv at slot)
hidden p s i j x inv h other at running q (inr (c, call, is, seen, m)) = read (q.calls c call is m)
  where
    clash : (o : Option ℕ) → inv.tx ≡ o → In c (own_calls s.calls o) → At s.txs call.tx (opened_by i) → ⊥
    clash None e m mine = true≢false (sym m)
    clash (Some u) e m mine =
        let k = in-own s.calls u c m in
        let same : u ≡ call.tx = sym k.2 ∙ ap (λ (x : Call). x.tx) (at-one s.calls c k.0 call k.1 is) in
        let its = h.linked.still_open j u inv at e in
        other (ap (λ (x : Tx). x.inv) (at-one s.txs call.tx (opened_by j) (opened_by i) (subst (λ w. At s.txs w (opened_by j)) same its) mine))

    read : ((v : Invocation) × At s.invocations i v × (v.tx ≡ Some call.tx)) → ⊥
    read k =
        let mine = h.linked.still_open i call.tx k.0 k.1 k.2 in
        elim (or-cases (inv.view c) (own_calls s.calls inv.tx c) seen) [
          | inl v ↦
              let y = (closed-snapshot s.calls s.txs inv.view (h.views j inv at running).snapshot).committed c v in
              let z : Committed s.txs call.tx = subst (λ (x : Call). Committed s.txs x.tx) (at-one s.calls c y.0 call y.1 is) y.2 in
              true≢false (sym z.2 ∙ ap (λ (x : Tx). x.committed) (at-one s.txs call.tx z.0 _ z.1 mine))
          | inr o ↦ clash inv.tx refl o mine
        ]

same-txs : (s : State) (t : ℕ) (tx : Tx) → At s.txs t tx → (tx' : Tx) × At s.txs t tx' × StaysTx tx tx'
same-txs s t tx a = (tx, a, (refl, λ e. e))

stands-running : (x : Val) (standing : Standing) → standing ≡ Running → stands_in x standing ≡ true → ⊥
stands-running x standing running m = true≢false (sym m ∙ ap (stands_in x) running)

-- # The labels of another invocation

-- one of j alone, which keeps the calls and transactions
put-grows : (p : Prog) (s : State) (i j : ℕ) (inv upd : Invocation) → IsValid p s → IsValid p (with_invocation s j upd) → j ≢ i → At s.invocations j inv → inv.standing ≡ Running → inv.proc ≡ upd.proc → inv.args ≡ upd.args
    → ((x : Val) → IsPrivate s i x → InSlots x upd.slots → ⊥) → ((x : Val) → IsPrivate s i x → stands_in x upd.standing ≡ true → ⊥) → Grows p s (with_invocation s j upd) i
put-grows p s i j inv upd h h' other at running proc args slots results =
    grow-set p s (with_invocation s j upd) i j inv upd h h' other at running proc args refl refl (λ c call a. a) (same-txs s) (λ x g. g) (λ c call a. inl a) (λ c x call q a st. a) slots results

invoke-grows : (p : Prog) (s : State) (proc : ℕ) (args : List Val) (i : ℕ) (q : Proc) → IsValid p s → IsValid p (record s { invocations = s.invocations ++ started q proc args ∷ [] })
    → ((x : Val) → IsPrivate s i x → Inside x args → ⊥) → Grows p s (record s { invocations = s.invocations ++ started q proc args ∷ [] }) i
invoke-grows p s proc args i q h h' none = record {
  before = h;
  after = h';
  universe = refl;
  calls = λ c call a. a;
  txs = same-txs s;
  invs = λ k inv a. (inv, at-keep s.invocations it k inv a, record { proc = refl; args = refl; ended = λ _. refl });
  generated = λ x g. g;
  same = λ inv a. at-keep s.invocations it i inv a;
  others = λ c call a e. a;
  private = λ x hid. record {
    generated = hid.generated;
    args = λ k inv a st. elim (at-push s.invocations it k inv a) [ inl e ↦ hid.args k inv e st | inr e ↦ none x hid (subst (λ (v : Invocation). Inside x v.args) e.1 st) ];
    results = λ k inv a st. elim (at-push s.invocations it k inv a) [ inl e ↦ hid.results k inv e st | inr e ↦ true≢false (sym st ∙ ap (λ (v : Invocation). stands_in x v.standing) e.1) ];
    slots = λ k inv a st. elim (at-push s.invocations it k inv a) [
      | inl e ↦ hid.slots k inv e st
      | inr e ↦ absurd (none x hid (slots-started x args (length q.slots - length args) (subst (λ (v : Invocation). InSlots x v.slots) e.1 st)))
    ];
    calls = λ c call a st. let k = hid.calls c call a st in (k.0, at-keep s.invocations it i k.0 k.1, k.2);
  };
}
  where
    it : Invocation
    it = started q proc args

does-grows : (p : Prog) → ProcsFit p → (s : State) (label : Label) (new : State) (i : ℕ) → IsValid p s → IsTyped p new → Does p s label new → named label ≢ Some i → Grows p s new i
does-grows p procs s (Invoke proc args) new i h t m other =
    let h' : IsValid p new = record { formed = does-formed p procs s (Invoke proc args) new h.formed m; typed = t } in
    subst (λ n. Grows p s n i) (sym m.4) (invoke-grows p s proc args i m.0 h (subst (IsValid p) m.4 h')
    (λ x q st. let k = any-found (λ (inv : Invocation). stands_in x inv.standing) s.invocations ((m.3 x st).1 (h.formed.known.ids x q.generated)) in q.results k.0 k.1 k.2 k.3))
does-grows p procs s (Begin j stamp sees) new i h t m other =
    let h' : IsValid p new = record { formed = does-formed p procs s (Begin j stamp sees) new h.formed m; typed = t } in
    let inv : Invocation = m.0 in
    let n : j ≢ i = λ e. other (ap (λ k. Some k) e) in
    let mark : Call = marker_call s j stamp sees in
    subst (λ n. Grows p s n i) (sym m.6) (grow-set p s (begun s j stamp sees inv m.1) i j inv _ h (subst (IsValid p) m.6 h') n m.2.is m.2.running refl refl refl refl
    (λ c call a. at-keep s.calls mark c call a)
    (λ t tx a. (tx, at-keep s.txs _ t tx a, (refl, λ e. e)))
    (λ x g. g)
    (λ c call a. elim (at-push s.calls mark c call a) [ inl e ↦ inl e | inr e ↦ inr (ap (λ (v : Call). v.inv) e.1) ])
    (λ c x call q a st. elim (at-push s.calls mark c call a) [ inl e ↦ e | inr e ↦ absurd (true≢false (sym (subst (λ (v : Call). Inside x v.args) e.1 st))) ])
    (λ x q st. n (q.slots j inv m.2.is st))
    (λ x q st. stands-running x inv.standing m.2.running st))
does-grows p procs s (Op j stamp) new i h t m other =
    let h' : IsValid p new = record { formed = does-formed p procs s (Op j stamp) new h.formed m; typed = t } in
    let inv : Invocation = m.0 in
    let n : j ≢ i = λ e. other (ap (λ k. Some k) e) in
    let added : Call = own_call s j stamp inv m.4 m.1 (list_of (values (at_invocation p s inv) [] m.2)) in
    subst (λ n. Grows p s n i) (sym m.8) (grow-set p s (operated s j stamp inv m.4 m.1 (list_of (values (at_invocation p s inv) [] m.2)) m.3) i j inv (record inv { left = m.3 }) h (subst (IsValid p) m.8 h') n m.5.is m.5.running refl refl refl refl
    (λ c call a. at-keep s.calls added c call a)
    (same-txs s)
    (λ x g. g)
    (λ c call a. elim (at-push s.calls added c call a) [ inl e ↦ inl e | inr e ↦ inr (ap (λ (v : Call). v.inv) e.1) ])
    (λ c x call q a st. elim (at-push s.calls added c call a) [
      | inl e ↦ e
      | inr e ↦ absurd (hidden p s i j x inv h.formed n m.5.is m.5.running q (list-from (at_invocation p s inv) x m.2 (subst (λ (v : Call). Inside x v.args) e.1 st)))
    ])
    (λ x q st. n (q.slots j inv m.5.is st))
    (λ x q st. stands-running x inv.standing m.5.running st))
does-grows p procs s (Local j) new i h t m other =
    let h' : IsValid p new = record { formed = does-formed p procs s (Local j) new h.formed m; typed = t } in
    let n : j ≢ i = λ e. other (ap (λ k. Some k) e) in
    subst (λ n. Grows p s n i) (sym m.4) (put-grows p s i j m.0 m.1 h (subst (IsValid p) m.4 h') n m.2.is m.2.running (sym m.3.proc) (sym m.3.args)
    (λ x q st. elim (m.3.slots x st) [ inl old ↦ n (q.slots j m.0 m.2.is old) | inr from ↦ hidden p s i j x m.0 h.formed n m.2.is m.2.running q from ])
    (λ x q st. stands-running x m.1.standing (m.3.standing ∙ m.2.running) st))
does-grows p procs s (New j id) new i h t m other =
    let h' : IsValid p new = record { formed = does-formed p procs s (New j id) new h.formed m; typed = t } in
    let inv : Invocation = m.0 in
    let n : j ≢ i = λ e. other (ap (λ k. Some k) e) in
    let upd : Invocation = record (with_slot inv m.1 id) { left = m.3 } in
    let next : State = record (with_invocation s j upd) { generated = s.generated ++ id ∷ [] } in
    subst (λ n. Grows p s n i) (sym m.8) (grow-set p s next i j inv upd h (subst (IsValid p) m.8 h') n m.4.is m.4.running refl refl refl refl
    (λ c call a. a) (same-txs s) (λ x g. any-left x s.generated (id ∷ []) g) (λ c call a. inl a) (λ c x call q a st. a)
    (λ x q st. elim (slots-set x inv.slots m.1 id st) [
      | inl old ↦ n (q.slots j inv m.4.is old)
      | inr mine ↦ true≢false (sym q.generated ∙ (ap (is_generated s) (stands-id p m.2 id x m.6 mine) ∙ m.5))
    ])
    (λ x q st. stands-running x inv.standing m.4.running st))
does-grows p procs s (Commit j) new i h t m other =
    let h' : IsValid p new = record { formed = does-formed p procs s (Commit j) new h.formed m; typed = t } in
    let inv : Invocation = m.0 in
    let n : j ≢ i = λ e. other (ap (λ k. Some k) e) in
    let its = h.formed.linked.still_open j m.3 inv m.4.is m.7 in
    subst (λ n. Grows p s n i) (sym m.8) (grow-set p s (committed s j inv m.3 m.2) i j inv (record inv { view = reading_set s.calls inv; tx = None; left = m.2 }) h (subst (IsValid p) m.8 h') n m.4.is m.4.running refl refl refl refl
    (λ c call a. a)
    (λ t tx a. elim (same-or t m.3) [
      | inl e ↦ (
        done_by j,
        subst (λ k. At (slice_set s.txs m.3 (done_by j)) k (done_by j)) (sym e) (at-set_same s.txs m.3 _ _ its),
        (ap (λ (v : Tx). v.inv) (at-one s.txs m.3 tx (opened_by j) (subst (λ k. At s.txs k tx) e a) its), λ _. refl),
      )
      | inr z ↦ (tx, at-set_other s.txs m.3 _ t tx z a, (refl, λ e. e))
    ])
    (λ x g. g) (λ c call a. inl a) (λ c x call q a st. a)
    (λ x q st. n (q.slots j inv m.4.is st))
    (λ x q st. stands-running x inv.standing m.4.running st))
does-grows p procs s (Return j) new i h t m other =
    let h' : IsValid p new = record { formed = does-formed p procs s (Return j) new h.formed m; typed = t } in
    let inv : Invocation = m.0 in
    let n : j ≢ i = λ e. other (ap (λ k. Some k) e) in
    subst (λ n. Grows p s n i) (sym m.4) (put-grows p s i j inv _ h (subst (IsValid p) m.4 h') n m.2.is m.2.running refl refl
    (λ x q st. n (q.slots j inv m.2.is st))
    (λ x q st. hidden p s i j x inv h.formed n m.2.is m.2.running q (result-from p s inv m.1 x st)))
does-grows p procs s (Fail j) new i h t m other =
    let h' : IsValid p new = record { formed = does-formed p procs s (Fail j) new h.formed m; typed = t } in
    let inv : Invocation = m.0 in
    let n : j ≢ i = λ e. other (ap (λ k. Some k) e) in
    subst (λ n. Grows p s n i) (sym m.2) (put-grows p s i j inv (record inv { standing = Failed }) h (subst (IsValid p) m.2 h') n m.1.is m.1.running refl refl
    (λ x q st. n (q.slots j inv m.1.is st))
    (λ x q st. true≢false (sym st)))
does-grows p procs s (Check sees) new i h t m other = absurd m

pub step-grows : (p : Prog) → is_well_formed p ≡ true → (s : State) (label : Label) (new : State) (i : ℕ) → IsValid p s → Leads s (step p s label) new → named label ≢ Some i → Grows p s new i
step-grows p w s label new i h l other = elim (step-moves p s label new h.formed.history l) [
  | inl same ↦ subst (λ n. Grows p s n i) (sym same) (grows-itself p s i h)
  | inr does ↦ does-grows p (procs-fit p w) s label new i h (step-typed p w s label new h.typed l) does other
]
