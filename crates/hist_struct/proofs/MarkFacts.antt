-- The markers of an invocation, and what it sees from each on.
use Rattle.std.proofs.Common.{◌≡◌, ℕ, zero, suc, ◌<◌, Bool, true, false, ◌&&◌, if◌then◌else◌, List, [], ◌∷◌, ◌++◌, length, nat_eq, refl, ap, sym, ◌∙◌, subst, inl, inr, true≢false, eqb-true, eq-eqb, arith, slice_get}
use Rattle.std.specs.declared.option.Option.{Option}
use Rattle.std.specs.declared.option.Option.TheVariants.{None, Some}
use Rattle.std.proofs.lemmas.Option.{none-some}
use Rattle.rp_lang.specs.Programs.{Prog}
use Rattle.crdt_defs.specs.Calls.{Call}
use Rattle.crdt_defs.specs.Histories.{call_is, before}
use Rattle.event_machine.specs.Machine.{Running, Invocation, Tx, State, listed, view_of}
use Rattle.event_machine.specs.WellFormed.{At, In, Past, Committed, IsMarker, IsWellFormed}
use Rattle.event_machine.proofs.PlaceLemmas.{at-push, at-one, at-lt, in-call_is, in-listed, any-at, or-left}
use Rattle.event_machine.proofs.ViewLemmas.{Closed, closed-snapshot}
use Rattle.event_machine.proofs.MoveLemmas.{by-cases}
use Rattle.std.proofs.lemmas.Bool.{and_parts}
use Rattle.hist_struct.specs.Steps.{marks, is_seen, is_seen_from, is_read}
use Rattle.hist_struct.proofs.CallFacts.{in-before, to-before}
use Rattle.hist_struct.proofs.SetFacts.{past-closed, none-closed}

-- # Places of ascending lists

pub and-nil : {A : Type 0} (xs : List A) → xs ++ [] ≡ xs
and-nil [] = refl
and-nil (x ∷ xs) = ap (λ ys. x ∷ ys) (and-nil xs)

in-list : (set : ℕ → Bool) (n k m : ℕ) → At (listed set n) k m → (m < n) × In m set
in-list set n k m a = in-listed set n m (any-at (λ y. nat_eq y m) (listed set n) k m a (eq-eqb m m refl))

one-less : {A : Type 0} (xs : List A) (k : ℕ) (y : A) → At xs (suc k) y → (x : A) × At xs k x
one-less [] k y a = absurd (none-some y a)
one-less (x ∷ xs) zero y a = (x, refl)
one-less (x ∷ xs) (suc k) y a = one-less xs k y a

pub ascends : (set : ℕ → Bool) (n k m m' : ℕ) → At (listed set n) k m → At (listed set n) (suc k) m' → m < m'
ascends set zero k m m' a b = absurd (none-some m a)
ascends set (suc n) k m m' a b = go (set n) a b (ascends set n k m m')
  where
    xs : List ℕ
    xs = listed set n

    last : At xs k m → m < n
    last a = (in-list set n k m a).0

    go : (t : Bool) → At (listed set n ++ (if t then n ∷ [] else [])) k m → At (listed set n ++ (if t then n ∷ [] else [])) (suc k) m'
        → (At (listed set n) k m → At (listed set n) (suc k) m' → m < m') → m < m'
    go false a b ih = ih (subst (λ ys. At ys k m) (and-nil xs) a) (subst (λ ys. At ys (suc k) m') (and-nil xs) b)
    go true a b ih = elim (at-push xs n (suc k) m' b) [
      | inl y ↦
          let x = one-less xs k m' y in
          elim (at-push xs n k m a) [
            | inl z ↦ ih z y
            | inr z ↦ let l = at-lt xs (suc k) m' y in let e = z.0 in absurd (omega (arith, l, e))
          ]
      | inr y ↦ elim (at-push xs n k m a) [
        | inl z ↦ let l = last z in let e = y.1 in omega (arith, l, e)
        | inr z ↦ let d = y.0 in let e = z.0 in absurd (omega (arith, d, e))
      ]
    ]

-- # Markers

pub record IsMarkOf (s : State) (i m : ℕ) : Type 0 where
  pub mark : Call
  pub is : At s.calls m mark
  pub inv : mark.inv ≡ i
  pub marks : IsMarker mark

pub mark-of : (s : State) (i k m : ℕ) → At (marks s i) k m → IsMarkOf s i m
mark-of s i k m a =
    let l = in-list (λ c. call_is s.calls (λ call. nat_eq call.inv i && nat_eq call.op 0) c) (length s.calls) k m a in
    let f = in-call_is s.calls (λ call. nat_eq call.inv i && nat_eq call.op 0) m l.1 in
    let b = and_parts (nat_eq f.0.inv i) (nat_eq f.0.op 0) f.2 in
    record { mark = f.0; is = f.1; inv = eqb-true f.0.inv i b.0; marks = eqb-true f.0.op 0 b.1 }

module _ (p : Prog) (s : State) (w : IsWellFormed p s) (i : ℕ) (runs : (inv : Invocation) → At s.invocations i inv → inv.standing ≡ Running) where
  -- the view is a snapshot, if there is one
  view-closed : Closed s.calls s.txs (view_of (slice_get s.invocations i))
  view-closed = go (slice_get s.invocations i) refl
    where
      go : (o : Option Invocation) → slice_get s.invocations i ≡ o → Closed s.calls s.txs (view_of o)
      go None e = none-closed s.calls s.txs (view_of None) (λ c. refl)
      go (Some inv) e = closed-snapshot s.calls s.txs inv.view (w.views i inv e (runs inv e)).snapshot

  pub seen-closed : (k : ℕ) → Closed s.calls s.txs (is_seen s i k)
  seen-closed k = go (slice_get (marks s i) k) refl
    where
      go : (o : Option ℕ) → slice_get (marks s i) k ≡ o → Closed s.calls s.txs (is_seen_from s i o)
      go None e = view-closed
      go (Some m) e = let f = mark-of s i k m e in past-closed s.calls s.txs w.history m f.mark f.is f.marks

  -- the past of a marker lies within the view
  mark-in-view : (m c : ℕ) → IsMarkOf s i m → before s.calls c m ≡ true → view_of (slice_get s.invocations i) c ≡ true
  mark-in-view m c f b =
      let t = w.history.has_tx m f.mark f.is in
      let v = w.linked.has_inv f.mark.tx t.0 t.1 in
      let at : At s.invocations i v.0 = subst (λ n. At s.invocations n v.0) (sym t.2 ∙ f.inv) v.1 in
      let view = w.views i v.0 at (runs v.0 at) in
      let past = in-before s.calls c m b in
      let down = (past-closed s.calls s.txs w.history m f.mark f.is f.marks).committed c b in
      let mine : In c v.0.view = elim (by-cases t.0.committed) [
        | inl e ↦
            let own = view.own m f.mark f.is f.inv (t.0, t.1, e) in
            (closed-snapshot s.calls s.txs v.0.view view.snapshot).down m c f.mark own f.is (subst (λ (x : Call). Past c x) (at-one s.calls m past.0 f.mark past.1 f.is) past.2)
        | inr e ↦
            let open_ = w.linked.opened f.mark.tx t.0 v.0 t.1 e v.1 in
            view.to_view f.mark.tx m c f.mark down.0 open_ f.is refl (subst (λ (x : Call). Past c x) (at-one s.calls m past.0 f.mark past.1 f.is) past.2) down.1
            (λ q. let done = subst (λ n. Committed s.txs n) q down.2 in true≢false (sym done.2 ∙ (ap (λ (x : Tx). x.committed) (at-one s.txs f.mark.tx done.0 t.0 done.1 t.1) ∙ e)))
      ] in
      ap (λ o. view_of o c) at ∙ mine

  pub seen-rises : (k c : ℕ) → is_seen s i k c ≡ true → is_seen s i (suc k) c ≡ true
  seen-rises k c h = go (slice_get (marks s i) k) (slice_get (marks s i) (suc k)) refl refl h
    where
      go : (o q : Option ℕ) → slice_get (marks s i) k ≡ o → slice_get (marks s i) (suc k) ≡ q → is_seen_from s i o c ≡ true → is_seen_from s i q c ≡ true
      go None None e f h = h
      go None (Some m') e f h = let x = one-less (marks s i) k m' f in absurd (none-some x.0 (sym e ∙ x.1))
      go (Some m) None e f h = mark-in-view m c (mark-of s i k m e) h
      go (Some m) (Some m') e f h =
          let a = mark-of s i k m e in
          let b = mark-of s i (suc k) m' f in
          let l = ascends (λ c. call_is s.calls (λ call. nat_eq call.inv i && nat_eq call.op 0) c) (length s.calls) k m m' e f in
          let x = in-before s.calls c m h in
          to-before s.calls c m' b.mark b.is (w.history.closed m' m c b.mark x.0 b.is (w.history.line m m' a.mark b.mark a.is b.is (a.inv ∙ sym b.inv) l) x.1 x.2)

pub seen-read : (s : State) (i k c : ℕ) → is_seen s i k c ≡ true → is_read s i k c ≡ true
seen-read s i k c h = or-left (is_seen s i k c) _ h
