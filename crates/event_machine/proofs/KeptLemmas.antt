-- Every accepted label keeps a well-formed state.
use Rattle.std.proofs.Common.{◌≡◌, ◌≢◌, ℕ, ◌<◌, ◌≤◌, Bool, true, false, List, [], ◌∷◌, ◌++◌, length, refl, ap, sym, ◌∙◌, subst, slice_get, slice_set, option_map, ◌⊎◌, inl, inr, true≢false, lt_irrefl, lt_trans, eqb-true, is_some}
use Rattle.std.specs.declared.option.Option.{Option}
use Rattle.std.specs.declared.option.Option.TheVariants.{None, Some}
use Rattle.std.proofs.lemmas.Option.{none-some}
use Rattle.rp_value.specs.declared.tables.Ty.TheVariants as ty
use Rattle.rp_value.specs.Values as val
use Rattle.rp_value.specs.Values.{Val, Atom}
use Rattle.rp_lang.specs.Exprs.{Ex, Exs}
use Rattle.rp_lang.specs.Programs.{Proc, Prog}
use Rattle.crdt_defs.specs.Calls.{Call}
use Rattle.crdt_defs.specs.SameValues.{same_val}
use Rattle.crdt_defs.specs.Snapshots.{IsSnapshot}
use Rattle.crdt_defs.specs.Truths.{list_of, value, values}
use Rattle.crdt_defs.proofs.SameLemmas.{same_val_is, same_val_itself}
use Rattle.event_machine.specs.Code as left
use Rattle.event_machine.specs.Code.{Code, proc_code}
use Rattle.event_machine.specs.Fitting.{fits, all_fit, names_ids, is_id, is_below}
use Rattle.event_machine.specs.Machine.{Standing, Running, Returned, Failed, Invocation, Tx, State, empty, Label, Invoke, Begin, Op, Local, New, Commit, Return, Fail, Check, listed, calls_of, own_calls, reading_set, at_invocation, stands_in, is_generated, with_invocation, with_slot, started, begun, operated, committed, step}
use Rattle.event_machine.specs.Runs.{Leads}
use Rattle.event_machine.specs.WellFormed.{At, In, Past, Committed, commits_of, opened_by, StandsIn, InSlots, IsView, IsFine, AreKnown, Next, nothing_done, one_more, Fits, ProcsFit, IsInvocation, IsWellFormed}
use Rattle.event_machine.proofs.PlaceLemmas.{at-push, at-new, at-one, at-lt, at-set, at-exists, same-or, to-calls_of, in-own, to-own, or-cases, or-left, or-right, in-listed, to-listed}
use Rattle.event_machine.proofs.CausalLemmas.{done_by, committed-push, history-push_tx, history-push, history-commit, Joins}
use Rattle.event_machine.proofs.LinkLemmas.{not-both, not-none, some-tx, each-set, each-push, linked-set, linked-push, linked-begin, linked-commit}
use Rattle.event_machine.proofs.ViewLemmas.{Closed, closed-snapshot, Sees, snapshot-sees, marker_call, to-past, isview-push, isview-push_tx, isview-commit, isview-committed, isview-started, isview-begun}
use Rattle.event_machine.proofs.ReadLemmas.{From, value-from, list-from, any-append, any-left, any-right}
use Rattle.event_machine.proofs.SlotLemmas.{slots-set}
use Rattle.event_machine.proofs.MoveLemmas.{Acts, Stamps, Keeps, IsLocal, ArgsKnown, Does, by-cases, step-moves}
use Rattle.event_machine.proofs.KnownLemmas.{changed, fine-grows, known-set, known-call, known-push, from-fine}

pub is-none : (o : Option ℕ) → is_some o ≡ false → o ≡ None
is-none None e = refl
is-none (Some t) e = absurd (true≢false e)

pub fits-at : (p : Prog) (s : State) (i : ℕ) (inv : Invocation) (code : Code) → IsWellFormed p s → Acts s i inv code → Fits p (is_some inv.tx) code
fits-at p s i inv code h a = subst (Fits p (is_some inv.tx)) a.point ((h.invocations i inv a.is).fits a.running)

-- # Invocations

-- a property of each invocation, after a change of one
every-set : (Q : Invocation → Type 0) (invs : List Invocation) (i : ℕ) (new : Invocation) → ((j : ℕ) (inv : Invocation) → At invs j inv → Q inv) → Q new
    → (j : ℕ) (inv : Invocation) → At (slice_set invs i new) j inv → Q inv
every-set Q invs i new rest here j inv at = elim (at-set invs i new j inv at) [
  | inl e ↦ subst Q (sym e.1) here
  | inr e ↦ rest j inv e.1
]

every-push : (Q : Invocation → Type 0) (invs : List Invocation) (new : Invocation) → ((j : ℕ) (inv : Invocation) → At invs j inv → Q inv) → Q new
    → (j : ℕ) (inv : Invocation) → At (invs ++ new ∷ []) j inv → Q inv
every-push Q invs new rest here j inv at = elim (at-push invs new j inv at) [
  | inl e ↦ rest j inv e
  | inr e ↦ subst Q (sym e.1) here
]

-- after one action
pub goes_on : (p : Prog) (old new : Invocation) → IsInvocation p old → old.standing ≡ Running → new.proc ≡ old.proc → new.args ≡ old.args → Next old.left new.left → Fits p (is_some new.tx) new.left → IsInvocation p new
goes_on p old new h running proc args next fit = record {
  proc = h.proc;
  is = subst (λ k. At p.procs k h.proc) (sym proc) h.is;
  args = ap (all_fit p h.proc.params) args ∙ h.args;
  rest = λ r. one_more old.left new.left (h.rest running) next;
  fits = λ r. fit;
}

-- after the last one
pub has_ended : (p : Prog) (old new : Invocation) → IsInvocation p old → new.proc ≡ old.proc → new.args ≡ old.args → new.standing ≢ Running → IsInvocation p new
has_ended p old new h proc args ended = record {
  proc = h.proc;
  is = subst (λ k. At p.procs k h.proc) (sym proc) h.is;
  args = ap (all_fit p h.proc.params) args ∙ h.args;
  rest = λ r. absurd (ended r);
  fits = λ r. absurd (ended r);
}

-- # A change of one invocation that leaves its transaction and view

pub formed-set : (p : Prog) (s : State) (i : ℕ) (old new : Invocation) (gen : List Val) → IsWellFormed p s → At s.invocations i old → old.standing ≡ Running → new.args ≡ old.args → new.view ≡ old.view → new.tx ≡ old.tx
    → ((r : Option Val) → new.standing ≡ Returned r → new.tx ≡ None)
    → ((x : Val) → is_generated s x ≡ true → is_generated (changed s i new gen) x ≡ true)
    → ((x : Val) → is_generated (changed s i new gen) x ≡ true → (is_id p x ≡ true) × (is_below s.universe x ≡ true))
    → ((x : Val) → InSlots x new.slots → IsFine p (changed s i new gen) x)
    → ((x : Val) → stands_in x new.standing ≡ true → IsFine p (changed s i new gen) x)
    → IsInvocation p new
    → IsWellFormed p (changed s i new gen)
formed-set p s i old new gen h at running args view tx ret grow ids slots results invocation = record {
  some = h.some;
  history = h.history;
  linked = linked-set s.txs s.invocations i old new h.linked at tx ret;
  views = each-set (IsView s.calls s.txs) s.invocations i new (λ j inv a r n. h.views j inv a r)
      (λ r. let v = h.views i old at running in record {
        snapshot = subst (IsSnapshot s.calls (commits_of s.txs)) (sym view) v.snapshot;
        own = λ c call a e k. subst (In c) (sym view) (v.own c call a e k);
        to_view = λ t c b call e is a q m ab n. subst (In b) (sym view) (v.to_view t c b call e (sym tx ∙ is) a q m ab n);
        from_view = λ t c b call is a q m. v.from_view t c b call (sym tx ∙ is) a q (subst (In b) view m);
        begun = λ t is. v.begun t (sym tx ∙ is);
      });
  known = known-set p s i old new gen h.known at running args grow ids slots results;
  invocations = every-set (IsInvocation p) s.invocations i new h.invocations invocation;
}

-- what is generated stays fine
same_ids : (p : Prog) (s : State) → IsWellFormed p s → (x : Val) → is_generated s x ≡ true → (is_id p x ≡ true) × (is_below s.universe x ≡ true)
same_ids p s h x m = (h.known.ids x m, h.known.below x m)

stands-running : (x : Val) (standing : Standing) → standing ≡ Running → stands_in x standing ≡ true → ⊥
stands-running x standing running m = true≢false (sym m ∙ ap (stands_in x) running)

-- # Begin

joins-begin : (p : Prog) (s : State) (i stamp : ℕ) (sees : List ℕ) (inv : Invocation) → IsWellFormed p s → At s.invocations i inv → inv.standing ≡ Running → inv.tx ≡ None → Sees s sees
    → Keeps s sees inv.view → Stamps s stamp (calls_of s.calls sees) → Joins s.calls (s.txs ++ opened_by i ∷ []) (marker_call s i stamp sees)
joins-begin p s i stamp sees inv h at running none ok keeps stamps = record {
  has_tx = (opened_by i, at-new s.txs _, refl);
  still_open = λ k. true≢false (sym k.2 ∙ ap (λ (x : Tx). x.committed) (at-one (s.txs ++ opened_by i ∷ []) (length s.txs) k.0 _ k.1 (at-new s.txs (opened_by i))));
  exist = λ d m. (in-listed (calls_of s.calls sees) (length s.calls) d m).0;
  closed = λ d b e m a q. to-past s.calls sees b (snap.down d b e (seen d m) a q);
  seen = λ d e m a n. let k = snap.committed d (seen d m) in committed-push s.txs _ e.tx (subst (λ (x : Call). Committed s.txs x.tx) (at-one s.calls d k.0 e k.1 a) k.2);
  whole = λ d b e f m a n ab q. to-past s.calls sees b (snap.whole d b e f (seen d m) a ab q);
  marks = λ m d e a q. fresh d e a q;
  marked = inl refl;
  inside = λ d e a q. absurd (fresh d e a q);
  from_view = λ d b e f a q. absurd (fresh d e a q);
  to_view = λ d b e f a q. absurd (fresh d e a q);
  line = λ d e a q.
      let x = h.history.has_tx d e a in
      elim (by-cases x.0.committed) [
        | inl done' ↦ to-past s.calls sees d (to-calls_of s.calls sees d e a (keeps d e a ((h.views i inv at running).own d e a q (x.0, x.1, done'))))
        | inr not' ↦ absurd (not-none inv.tx e.tx none (h.linked.opened e.tx x.0 inv x.1 not' (subst (λ j. At s.invocations j inv) (sym q ∙ x.2) at)))
      ];
  unused = stamps.unused;
  high = λ d e a m. stamps.high d e a (seen d m);
}
  where
    snap : Closed s.calls s.txs (calls_of s.calls sees)
    snap = snapshot-sees s sees h.history ok

    seen : (d : ℕ) → Past d (marker_call s i stamp sees) → In d (calls_of s.calls sees)
    seen d m = (in-listed (calls_of s.calls sees) (length s.calls) d m).1

    fresh : (c : ℕ) (call : Call) → At s.calls c call → call.tx ≡ length s.txs → ⊥
    fresh c call a q = let x = h.history.has_tx c call a in lt_irrefl _ (subst (λ k. k < length s.txs) q (at-lt s.txs call.tx x.0 x.1))

pub begin-formed : (p : Prog) (s : State) (i stamp : ℕ) (sees : List ℕ) (inv : Invocation) (next : Code) → IsWellFormed p s → Acts s i inv (left.Begin next) → Sees s sees
    → Keeps s sees inv.view → Stamps s stamp (calls_of s.calls sees) → IsWellFormed p (begun s i stamp sees inv next)
begin-formed p s i stamp sees inv next h a ok keeps stamps = record {
  some = h.some;
  history = history-push s.calls (s.txs ++ tx ∷ []) mark joins (history-push_tx s.calls s.txs tx h.history);
  linked = linked-begin s.txs s.invocations i inv new h.linked a.is none refl a.running;
  views = each-set (IsView (s.calls ++ mark ∷ []) (s.txs ++ tx ∷ [])) s.invocations i new
      (λ j v at r n. isview-push s.calls (s.txs ++ tx ∷ []) j v mark joins.still_open joins.exist
      (λ b e is. absurd (not_its j v at is)) (λ b is. absurd (not_its j v at is))
      (history-push_tx s.calls s.txs tx h.history) (isview-push_tx s.calls s.txs j i v (h.views j v at r)))
      (λ r. isview-begun s i stamp sees inv new h.history ok (h.views i inv a.is a.running) keeps refl refl);
  known = known-call p (changed s i new s.generated) mark (s.txs ++ tx ∷ [])
      (known-set p s i inv new s.generated h.known a.is a.running refl (λ x g. g) (same_ids p s h)
      (λ x m. fine-grows p s (changed s i new s.generated) x refl (λ g. g) (h.known.in_slots i x inv a.is m)) (λ x m. absurd (stands-running x inv.standing a.running m)))
      (λ x m. absurd (true≢false (sym m)));
  invocations = every-set (IsInvocation p) s.invocations i new h.invocations
      (goes_on p inv new (h.invocations i inv a.is) a.running refl refl (subst (λ code. Next code next) (sym a.point) refl) fit.1);
}
  where
    mark : Call
    mark = marker_call s i stamp sees

    tx : Tx
    tx = opened_by i

    new : Invocation
    new = record inv { view = calls_of s.calls sees; tx = Some (length s.txs); left = next }

    fit : Fits p (is_some inv.tx) (left.Begin next)
    fit = fits-at p s i inv (left.Begin next) h a

    none : inv.tx ≡ None
    none = is-none inv.tx fit.0

    joins : Joins s.calls (s.txs ++ tx ∷ []) mark
    joins = joins-begin p s i stamp sees inv h a.is a.running none ok keeps stamps

    not_its : (j : ℕ) (v : Invocation) → At s.invocations j v → v.tx ≡ Some (length s.txs) → ⊥
    not_its j v at is = lt_irrefl _ (at-lt s.txs (length s.txs) _ (h.linked.still_open j (length s.txs) v at is))

-- # Op

-- a call of the open transaction
abbrev pub own_call : State → ℕ → ℕ → Invocation → ℕ → ℕ → List Val → Call
own_call s i stamp inv t op args =
    record { op = op; args = args; inv = i; tx = t; stamp = stamp; past = listed (reading_set s.calls inv) (length s.calls) }

joins-op : (p : Prog) (s : State) (i stamp t op : ℕ) (inv : Invocation) (args : List Val) → IsWellFormed p s → At s.invocations i inv → inv.standing ≡ Running → inv.tx ≡ Some t → op ≢ 0
    → Stamps s stamp (reading_set s.calls inv) → Joins s.calls s.txs (own_call s i stamp inv t op args)
joins-op p s i stamp t op inv args h at running is plain stamps = record {
  has_tx = (opened_by i, its, refl);
  still_open = not_yet;
  exist = λ d m. (in-listed (reading_set s.calls inv) (length s.calls) d m).0;
  closed = λ d b e m a q. elim (cases d (read d m)) [
    | inl v ↦ to b (or-left (inv.view b) (own_calls s.calls inv.tx b) (snap.down d b e v a q))
    | inr o ↦
        let f = at-exists s.calls b (lt_trans (h.history.earlier d b e a q) (at-lt s.calls d e a)) in
        elim (same-or f.0.tx t) [
          | inl r ↦ to b (mine b f.0 f.1 r)
          | inr n ↦ to b (or-left (inv.view b) (own_calls s.calls inv.tx b) (view.to_view t d b e f.0 is a (tx_of d e a o) q f.1 n))
        ]
  ];
  seen = λ d e m a n. elim (cases d (read d m)) [
    | inl v ↦ let k = snap.committed d v in subst (λ (x : Call). Committed s.txs x.tx) (at-one s.calls d k.0 e k.1 a) k.2
    | inr o ↦ absurd (n (tx_of d e a o))
  ];
  whole = λ d b e f m a n ab q. elim (cases d (read d m)) [
    | inl v ↦ to b (or-left (inv.view b) (own_calls s.calls inv.tx b) (snap.whole d b e f v a ab q))
    | inr o ↦ absurd (n (tx_of d e a o))
  ];
  marks = λ m. absurd (plain m);
  marked = inr (view.begun t is);
  inside = λ d e a q. to d (mine d e a q);
  from_view = λ d b e f a q ab n m. elim (cases b (read b m)) [
    | inl v ↦ view.from_view t d b e is a q v
    | inr o ↦ absurd (n (tx_of b f ab o))
  ];
  to_view = λ d b e f a q ab n m. to b (or-left (inv.view b) (own_calls s.calls inv.tx b) (view.to_view t d b e f is a q m ab n));
  line = λ d e a q.
      let x = h.history.has_tx d e a in
      elim (by-cases x.0.committed) [
        | inl done' ↦ to d (or-left (inv.view d) (own_calls s.calls inv.tx d) (view.own d e a q (x.0, x.1, done')))
        | inr not' ↦ to d (mine d e a (some-tx e.tx t (sym (h.linked.opened e.tx x.0 inv x.1 not' (subst (λ j. At s.invocations j inv) (sym q ∙ x.2) at)) ∙ is)))
      ];
  unused = stamps.unused;
  high = λ d e a m. stamps.high d e a (read d m);
}
  where
    view : IsView s.calls s.txs i inv
    view = h.views i inv at running

    snap : Closed s.calls s.txs inv.view
    snap = closed-snapshot s.calls s.txs inv.view view.snapshot

    its : At s.txs t (opened_by i)
    its = h.linked.still_open i t inv at is

    not_yet : Committed s.txs t → ⊥
    not_yet k = true≢false (sym k.2 ∙ ap (λ (x : Tx). x.committed) (at-one s.txs t k.0 _ k.1 its))

    read : (d : ℕ) → Past d (own_call s i stamp inv t op args) → In d (reading_set s.calls inv)
    read d m = (in-listed (reading_set s.calls inv) (length s.calls) d m).1

    cases : (c : ℕ) → In c (reading_set s.calls inv) → In c inv.view ⊎ ((call : Call) × At s.calls c call × (call.tx ≡ t))
    cases c m = elim (or-cases (inv.view c) (own_calls s.calls inv.tx c) m) [ inl v ↦ inl v | inr o ↦ inr (in-own s.calls t c (subst (λ x. In c (own_calls s.calls x)) is o)) ]

    to : (d : ℕ) → In d (reading_set s.calls inv) → Past d (own_call s i stamp inv t op args)
    to d m = elim (cases d m) [
      | inl v ↦ let k = snap.committed d v in to-listed (reading_set s.calls inv) (length s.calls) d (at-lt s.calls d k.0 k.1) m
      | inr o ↦ to-listed (reading_set s.calls inv) (length s.calls) d (at-lt s.calls d o.0 o.1) m
    ]

    mine : (d : ℕ) (e : Call) → At s.calls d e → e.tx ≡ t → In d (reading_set s.calls inv)
    mine d e a q = or-right (inv.view d) (own_calls s.calls inv.tx d) (subst (λ x. In d (own_calls s.calls x)) (sym is) (to-own s.calls t d e a q))

    tx_of : (d : ℕ) (e : Call) → At s.calls d e → ((call : Call) × At s.calls d call × (call.tx ≡ t)) → e.tx ≡ t
    tx_of d e a o = ap (λ (x : Call). x.tx) (at-one s.calls d e o.0 a o.1) ∙ o.2

pub op-formed : (p : Prog) (s : State) (i stamp t op : ℕ) (inv : Invocation) (args : Exs) (next : Code) → IsWellFormed p s → Acts s i inv (left.Operate op args next) → inv.tx ≡ Some t
    → Stamps s stamp (reading_set s.calls inv) → IsWellFormed p (operated s i stamp inv t op (list_of (values (at_invocation p s inv) [] args)) next)
op-formed p s i stamp t op inv args next h a is stamps = record {
  some = h.some;
  history = history-push s.calls s.txs call joins h.history;
  linked = linked-set s.txs s.invocations i inv new h.linked a.is refl (λ r e. absurd (not-both inv.standing r a.running e));
  views = each-set (IsView (s.calls ++ call ∷ []) s.txs) s.invocations i new
      (λ j v at r n. isview-push s.calls s.txs j v call joins.still_open joins.exist (λ b e q. absurd (not_its j v at n q)) (λ b q. absurd (not_its j v at n q)) h.history (h.views j v at r))
      (λ r. its_view);
  known = known-call p (changed s i new s.generated) call s.txs
      (known-set p s i inv new s.generated h.known a.is a.running refl (λ x g. g) (same_ids p s h)
      (λ x m. fine-grows p s (changed s i new s.generated) x refl (λ g. g) (h.known.in_slots i x inv a.is m)) (λ x m. absurd (stands-running x inv.standing a.running m)))
      (λ x m. fine-grows p s (changed s i new s.generated) x refl (λ g. g) (from-fine p s i inv x h.known a.is (list-from (at_invocation p s inv) x args m)));
  invocations = every-set (IsInvocation p) s.invocations i new h.invocations
      (goes_on p inv new (h.invocations i inv a.is) a.running refl refl (subst (λ code. Next code next) (sym a.point) refl) fit.2);
}
  where
    call : Call
    call = own_call s i stamp inv t op (list_of (values (at_invocation p s inv) [] args))

    new : Invocation
    new = record inv { left = next }

    fit : Fits p (is_some inv.tx) (left.Operate op args next)
    fit = fits-at p s i inv (left.Operate op args next) h a

    joins : Joins s.calls s.txs call
    joins = joins-op p s i stamp t op inv (list_of (values (at_invocation p s inv) [] args)) h a.is a.running is fit.1 stamps

    not_its : (j : ℕ) (v : Invocation) → At s.invocations j v → j ≢ i → v.tx ≡ Some t → ⊥
    not_its j v at n q = n (ap (λ (x : Tx). x.inv) (at-one s.txs t (opened_by j) (opened_by i) (h.linked.still_open j t v at q) (h.linked.still_open i t inv a.is is)))

    read : (d : ℕ) → Past d call → In d (reading_set s.calls inv)
    read d m = (in-listed (reading_set s.calls inv) (length s.calls) d m).1

    snap : Closed s.calls s.txs inv.view
    snap = closed-snapshot s.calls s.txs inv.view (h.views i inv a.is a.running).snapshot

    old_view : IsView (s.calls ++ call ∷ []) s.txs i inv
    old_view = isview-push s.calls s.txs i inv call joins.still_open joins.exist
        (λ b e q m ab n. elim (or-cases (inv.view b) (own_calls s.calls inv.tx b) (read b m)) [
          | inl v ↦ v
          | inr o ↦ let k = in-own s.calls t b (subst (λ x. In b (own_calls s.calls x)) is o) in absurd (n (ap (λ (x : Call). x.tx) (at-one s.calls b e k.0 ab k.1) ∙ k.2))
        ])
        (λ b q m. let k = snap.committed b m in to-listed (reading_set s.calls inv) (length s.calls) b (at-lt s.calls b k.0 k.1) (or-left (inv.view b) (own_calls s.calls inv.tx b) m))
        h.history (h.views i inv a.is a.running)

    its_view : IsView (s.calls ++ call ∷ []) s.txs i new
    its_view = record { snapshot = old_view.snapshot; own = old_view.own; to_view = old_view.to_view; from_view = old_view.from_view; begun = old_view.begun }

-- # Commit

pub commit-formed : (p : Prog) (s : State) (i t : ℕ) (inv : Invocation) (place next : Code) → IsWellFormed p s → Acts s i inv place
    → ((within : Bool) → Fits p within place → (within ≡ true) × Fits p false next) → Next place next → inv.tx ≡ Some t → IsWellFormed p (committed s i inv t next)
commit-formed p s i t inv place next h a ends after is = record {
  some = h.some;
  history = history-commit s.calls s.txs i t its h.history;
  linked = linked-commit s.txs s.invocations i t inv new h.linked a.is is refl;
  views = each-set (IsView s.calls (slice_set s.txs t (done_by i))) s.invocations i new
      (λ j v at r n. isview-commit s.calls s.txs j i t v n its h.history (h.views j v at r))
      (λ r. isview-committed s.calls s.txs i t inv next is its h.history (h.views i inv a.is a.running));
  known = with_txs (known-set p s i inv new s.generated h.known a.is a.running refl (λ x g. g) (same_ids p s h)
      (λ x m. fine-grows p s (changed s i new s.generated) x refl (λ g. g) (h.known.in_slots i x inv a.is m)) (λ x m. absurd (stands-running x inv.standing a.running m)));
  invocations = every-set (IsInvocation p) s.invocations i new h.invocations
      (goes_on p inv new (h.invocations i inv a.is) a.running refl refl (subst (λ code. Next code next) (sym a.point) after) (ends (is_some inv.tx) (fits-at p s i inv place h a)).1);
}
  where
    new : Invocation
    new = record inv { view = reading_set s.calls inv; tx = None; left = next }

    its : At s.txs t (opened_by i)
    its = h.linked.still_open i t inv a.is is

    with_txs : AreKnown p (changed s i new s.generated) → AreKnown p (committed s i inv t next)
    with_txs k = record {
      in_calls = λ c x call a m. fine-grows p (changed s i new s.generated) (committed s i inv t next) x refl (λ g. g) (k.in_calls c x call a m);
      in_args = λ j x v a m. fine-grows p (changed s i new s.generated) (committed s i inv t next) x refl (λ g. g) (k.in_args j x v a m);
      in_slots = λ j x v a m. fine-grows p (changed s i new s.generated) (committed s i inv t next) x refl (λ g. g) (k.in_slots j x v a m);
      in_results = λ j x v a m. fine-grows p (changed s i new s.generated) (committed s i inv t next) x refl (λ g. g) (k.in_results j x v a m);
      args_known = k.args_known;
      ids = k.ids;
      below = k.below;
    }

-- # Invoke

pub invoke-formed : (p : Prog) (s : State) (proc : ℕ) (q : Proc) (args : List Val) → ProcsFit p → IsWellFormed p s → At p.procs proc q → all_fit p q.params args ≡ true → ArgsKnown p s args
    → IsWellFormed p (record s { invocations = s.invocations ++ started q proc args ∷ [] })
invoke-formed p s proc q args procs h is fit known = record {
  some = h.some;
  history = h.history;
  linked = linked-push s.txs s.invocations it h.linked refl;
  views = each-push (IsView s.calls s.txs) s.invocations it (λ j v at r. h.views j v at r) (isview-started s.calls s.txs s.invocations it (λ c. refl) refl h.history h.linked);
  known = known-push p s q proc args h.known known;
  invocations = every-push (IsInvocation p) s.invocations it h.invocations
      (record { proc = q; is = is; args = fit; rest = λ r. nothing_done; fits = λ r. procs proc q is });
}
  where
    it : Invocation
    it = started q proc args

-- # Local, New, Return and Fail

pub local-formed : (p : Prog) (s : State) (i : ℕ) (inv after : Invocation) → IsWellFormed p s → Acts s i inv inv.left → IsLocal p s inv inv.left after → IsWellFormed p (with_invocation s i after)
local-formed p s i inv after h a l =
    formed-set p s i inv after s.generated h a.is a.running l.args l.view l.tx (λ r e. absurd (not-both inv.standing r a.running (sym l.standing ∙ e))) (λ x g. g) (same_ids p s h)
    (λ x m. fine-grows p s (changed s i after s.generated) x refl (λ g. g) (elim (l.slots x m) [
      | inl old ↦ h.known.in_slots i x inv a.is old
      | inr from ↦ from-fine p s i inv x h.known a.is from
    ]))
    (λ x m. absurd (stands-running x after.standing (l.standing ∙ a.running) m))
    (goes_on p inv after (h.invocations i inv a.is) a.running l.proc l.args l.next
    (subst (λ o. Fits p (is_some o) after.left) (sym l.tx) (l.fits (is_some inv.tx) (fits-at p s i inv inv.left h a))))

-- an identifier of the type that is asked
id-of : (p : Prog) (of : ℕ) (id : Val) → names_ids (slice_get p.types.atoms of) ≡ true → fits p (ty.Atom of) id ≡ true → is_id p id ≡ true
id-of p of (Atom t n) names fit = ap (λ k. names_ids (slice_get p.types.atoms k)) (eqb-true t of fit) ∙ names
id-of p of _ names fit = absurd (true≢false (sym fit))

-- it stands in itself alone
pub stands-id : (p : Prog) (of : ℕ) (id x : Val) → fits p (ty.Atom of) id ≡ true → StandsIn x id → x ≡ id
stands-id p of (Atom t n) x fit m = elim (or-cases (same_val x (Atom t n)) false m) [ inl e ↦ same_val_is x (Atom t n) e | inr none ↦ absurd (true≢false (sym none)) ]
stands-id p of (val.Int n) x fit m = absurd (true≢false (sym fit))
stands-id p of (val.Str bytes) x fit m = absurd (true≢false (sym fit))
stands-id p of (val.Con con args) x fit m = absurd (true≢false (sym fit))
stands-id p of (val.Call c) x fit m = absurd (true≢false (sym fit))
stands-id p of (val.Inv j) x fit m = absurd (true≢false (sym fit))

stands-itself : (p : Prog) (of : ℕ) (id : Val) → fits p (ty.Atom of) id ≡ true → StandsIn id id
stands-itself p of (Atom t n) fit = or-left (same_val (Atom t n) (Atom t n)) false (same_val_itself (Atom t n))
stands-itself p of _ fit = absurd (true≢false (sym fit))

pub new-formed : (p : Prog) (s : State) (i : ℕ) (id : Val) (inv : Invocation) (slot of : ℕ) (next : Code) → IsWellFormed p s → Acts s i inv (left.New slot of next)
    → fits p (ty.Atom of) id ≡ true → ((x : Val) → StandsIn x id → is_below s.universe x ≡ true)
    → IsWellFormed p (record (with_invocation s i (record (with_slot inv slot id) { left = next })) { generated = s.generated ++ id ∷ [] })
new-formed p s i id inv slot of next h a fit below =
    formed-set p s i inv new gen h a.is a.running refl refl refl (λ r e. absurd (not-both inv.standing r a.running e)) grow ids slots (λ x m. absurd (stands-running x inv.standing a.running m))
    (goes_on p inv new (h.invocations i inv a.is) a.running refl refl (subst (λ code. Next code next) (sym a.point) refl) fits'.1)
  where
    new : Invocation
    new = record (with_slot inv slot id) { left = next }

    gen : List Val
    gen = s.generated ++ id ∷ []

    fits' : Fits p (is_some inv.tx) (left.New slot of next)
    fits' = fits-at p s i inv (left.New slot of next) h a

    grow : (x : Val) → is_generated s x ≡ true → is_generated (changed s i new gen) x ≡ true
    grow x m = any-left x s.generated (id ∷ []) m

    ids : (x : Val) → is_generated (changed s i new gen) x ≡ true → (is_id p x ≡ true) × (is_below s.universe x ≡ true)
    ids x m = elim (any-append x s.generated (id ∷ []) m) [
      | inl old ↦ same_ids p s h x old
      | inr new ↦ elim (or-cases (same_val x id) false new) [
        | inl e ↦
            let is = same_val_is x id e in
            (ap (is_id p) is ∙ id-of p of id fits'.0 fit, ap (is_below s.universe) is ∙ below id (stands-itself p of id fit))
        | inr none ↦ absurd (true≢false (sym none))
      ]
    ]

    here : (x : Val) → StandsIn x id → is_generated (changed s i new gen) x ≡ true
    here x m =
        let is = stands-id p of id x fit m in
        any-right x s.generated (id ∷ []) (or-left (same_val x id) false (ap (same_val x) (sym is) ∙ same_val_itself x))

    slots : (x : Val) → InSlots x new.slots → IsFine p (changed s i new gen) x
    slots x m = elim (slots-set x inv.slots slot id m) [
      | inl old ↦ fine-grows p s (changed s i new gen) x refl (grow x) (h.known.in_slots i x inv a.is old)
      | inr mine ↦ record { below = below x mine; generated = λ q. here x mine }
    ]

pub not-running : (r : Option Val) → Returned r ≢ Running
not-running r e = cc

pub not-failed : Failed ≢ Running
not-failed e = cc

pub failed-returned : (r : Option Val) → Failed ≢ Returned r
failed-returned r e = cc

-- what stands in a result came from an expression
pub result-from : (p : Prog) (s : State) (inv : Invocation) (result : Option Ex) (x : Val)
    → stands_in x (Returned (option_map (value (at_invocation p s inv) []) result)) ≡ true → From (at_invocation p s inv) x
result-from p s inv None x m = absurd (true≢false (sym m))
result-from p s inv (Some e) x m = value-from (at_invocation p s inv) x e m

pub return-formed : (p : Prog) (s : State) (i : ℕ) (inv : Invocation) (result : Option Ex) → IsWellFormed p s → Acts s i inv inv.left → ((within : Bool) → Fits p within inv.left → within ≡ false)
    → IsWellFormed p (with_invocation s i (record inv { standing = Returned (option_map (value (at_invocation p s inv) []) result) }))
return-formed p s i inv result h a outside =
    let after = record inv { standing = Returned (option_map (value (at_invocation p s inv) []) result) } in
    formed-set p s i inv after s.generated h a.is a.running refl refl refl (λ r e. is-none inv.tx (outside (is_some inv.tx) (fits-at p s i inv inv.left h a))) (λ x g. g) (same_ids p s h)
    (λ x m. fine-grows p s (changed s i after s.generated) x refl (λ g. g) (h.known.in_slots i x inv a.is m))
    (λ x m. fine-grows p s (changed s i after s.generated) x refl (λ g. g) (from-fine p s i inv x h.known a.is (result-from p s inv result x m)))
    (has_ended p inv after (h.invocations i inv a.is) refl refl (not-running _))

pub fail-formed : (p : Prog) (s : State) (i : ℕ) (inv : Invocation) → IsWellFormed p s → At s.invocations i inv → inv.standing ≡ Running → IsWellFormed p (with_invocation s i (record inv { standing = Failed }))
fail-formed p s i inv h at running =
    let after = record inv { standing = Failed } in
    formed-set p s i inv after s.generated h at running refl refl refl (λ r e. absurd (failed-returned r e)) (λ x g. g) (same_ids p s h)
    (λ x m. fine-grows p s (changed s i after s.generated) x refl (λ g. g) (h.known.in_slots i x inv at m))
    (λ x m. absurd (true≢false (sym m)))
    (has_ended p inv after (h.invocations i inv at) refl refl not-failed)

-- # Every label

pub does-formed : (p : Prog) → ProcsFit p → (s : State) (label : Label) (new : State) → IsWellFormed p s → Does p s label new → IsWellFormed p new
does-formed p procs s (Invoke proc args) new h m = subst (IsWellFormed p) (sym m.4) (invoke-formed p s proc m.0 args procs h m.1 m.2 m.3)
does-formed p procs s (Begin i stamp sees) new h m = subst (IsWellFormed p) (sym m.6) (begin-formed p s i stamp sees m.0 m.1 h m.2 m.3 m.4 m.5)
does-formed p procs s (Op i stamp) new h m = subst (IsWellFormed p) (sym m.8) (op-formed p s i stamp m.4 m.1 m.0 m.2 m.3 h m.5 m.6 m.7)
does-formed p procs s (Local i) new h m = subst (IsWellFormed p) (sym m.4) (local-formed p s i m.0 m.1 h m.2 m.3)
does-formed p procs s (New i id) new h m = subst (IsWellFormed p) (sym m.8) (new-formed p s i id m.0 m.1 m.2 m.3 h m.4 m.6 m.7)
does-formed p procs s (Commit i) new h m = subst (IsWellFormed p) (sym m.8) (commit-formed p s i m.3 m.0 m.1 m.2 h m.4 m.5 m.6 m.7)
does-formed p procs s (Return i) new h m = subst (IsWellFormed p) (sym m.4) (return-formed p s i m.0 m.1 h m.2 m.3)
does-formed p procs s (Fail i) new h m = subst (IsWellFormed p) (sym m.2) (fail-formed p s i m.0 h m.1.is m.1.running)
does-formed p procs s (Check sees) new h m = absurd m

pub step-formed : (p : Prog) → ProcsFit p → (s : State) (label : Label) (new : State) → IsWellFormed p s → Leads s (step p s label) new → IsWellFormed p new
step-formed p procs s label new h l = elim (step-moves p s label new h.history l) [
  | inl same ↦ subst (IsWellFormed p) (sym same) h
  | inr does ↦ does-formed p procs s label new h does
]

pub empty-formed : (p : Prog) (universe : ℕ) → 1 ≤ universe → IsWellFormed p (empty universe)
empty-formed p universe one = record {
  some = one;
  history = record {
    has_tx = λ c call a. absurd (none-some call a);
    earlier = λ c d call a. absurd (none-some call a);
    closed = λ c d b call e a. absurd (none-some call a);
    seen = λ c d call e a. absurd (none-some call a);
    whole = λ c d b call e f a. absurd (none-some call a);
    first = λ c d call e a. absurd (none-some call a);
    marked = λ c call a. absurd (none-some call a);
    inside = λ c d call e a. absurd (none-some call a);
    outside = λ c d b call e f a. absurd (none-some call a);
    line = λ c d call e a. absurd (none-some call a);
    distinct = λ c d call e a. absurd (none-some call a);
    rises = λ c d call e a. absurd (none-some call a);
  };
  linked = record {
    has_inv = λ t tx a. absurd (none-some tx a);
    opened = λ t tx inv a. absurd (none-some tx a);
    still_open = λ i t inv a. absurd (none-some inv a);
    returned = λ i inv r a. absurd (none-some inv a);
  };
  views = λ i inv a. absurd (none-some inv a);
  known = record {
    in_calls = λ c x call a. absurd (none-some call a);
    in_args = λ i x inv a. absurd (none-some inv a);
    in_slots = λ i x inv a. absurd (none-some inv a);
    in_results = λ i x inv a. absurd (none-some inv a);
    args_known = λ i x inv a. absurd (none-some inv a);
    ids = λ x m. absurd (true≢false (sym m));
    below = λ x m. absurd (true≢false (sym m));
  };
  invocations = λ i inv a. absurd (none-some inv a);
}
