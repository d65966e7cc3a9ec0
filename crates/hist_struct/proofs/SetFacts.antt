-- Sets of calls that are closed: committed calls, the past of a marker, views; and what stays of them in a later history.
use Rattle.std.proofs.Common.{◌≡◌, ◌≢◌, ℕ, Bool, true, false, ◌&&◌, List, ap, sym, ◌∙◌, subst, inl, inr, true≢false, arith}
use Rattle.crdt_defs.specs.Calls.{Call}
use Rattle.crdt_defs.specs.Histories.{before, same_tx}
use Rattle.crdt_defs.specs.Snapshots.{bit, IsSnapshot}
use Rattle.event_machine.specs.Machine.{Tx, State}
use Rattle.event_machine.specs.WellFormed.{At, In, Past, Committed, commits_of, IsMarker, IsCausal}
use Rattle.event_machine.proofs.PlaceLemmas.{at-one, at-lt, at-exists, same-or, in-call_is, to-call_is}
use Rattle.event_machine.proofs.ViewLemmas.{Closed, bit-committed, committed-bit}
use Rattle.event_machine.proofs.MoveLemmas.{and-make}
use Rattle.std.proofs.lemmas.Bool.{and_parts}
use Rattle.hist_struct.specs.Steps.{is_done}
use Rattle.hist_struct.proofs.CallFacts.{in-before, to-before, in-same}

pub in-done : (s : State) (c : ℕ) → In c (is_done s) → (call : Call) × At s.calls c call × Committed s.txs call.tx
in-done s c i = let k = in-call_is s.calls (λ call. bit (commits_of s.txs) call.tx) c i in (k.0, k.1, bit-committed s.txs k.0.tx k.2)

pub to-done : (s : State) (c : ℕ) (call : Call) → At s.calls c call → Committed s.txs call.tx → In c (is_done s)
to-done s c call a k = to-call_is s.calls (λ call. bit (commits_of s.txs) call.tx) c call a (committed-bit s.txs call.tx k)

-- all committed calls
pub done-closed : (s : State) → IsCausal s.calls s.txs → Closed s.calls s.txs (is_done s)
done-closed s w = record {
  committed = λ c i. in-done s c i;
  down = λ c d call i a p.
      let low = w.earlier c d call a p in
      let high = at-lt s.calls c call a in
      let e = at-exists s.calls d (omega (arith, low, high)) in
      let k = in-done s c i in
      let is : Committed s.txs call.tx = subst (λ (x : Call). Committed s.txs x.tx) (at-one s.calls c k.0 call k.1 a) k.2 in
      to-done s d e.0 e.1 (elim (same-or e.0.tx call.tx) [ inl q ↦ subst (λ t. Committed s.txs t) (sym q) is | inr n ↦ w.seen c d call e.0 a p e.1 n ]);
  whole = λ c d call e i a ad q.
      let k = in-done s c i in
      to-done s d e ad (subst (λ t. Committed s.txs t) (sym q) (subst (λ (x : Call). Committed s.txs x.tx) (at-one s.calls c k.0 call k.1 a) k.2));
}

-- the past of a marker
pub past-closed : (h : List Call) (txs : List Tx) → IsCausal h txs → (m : ℕ) (mark : Call) → At h m mark → IsMarker mark → Closed h txs (λ c. before h c m)
past-closed h txs w m mark am is = record {
  committed = λ c i.
      let p = past c i in
      let e = there c p in
      (e.0, e.1, w.seen m c mark e.0 am p e.1 (other c e.0 e.1 p));
  down = λ c d call i a p. to-before h d m mark am (w.closed m c d mark call am (past c i) a p);
  whole = λ c d call e i a ad q. to-before h d m mark am (w.whole m c d mark call e am (past c i) a (other c call a (past c i)) ad q);
}
  where
    past : (c : ℕ) → before h c m ≡ true → Past c mark
    past c i = let k = in-before h c m i in subst (λ (x : Call). Past c x) (at-one h m k.0 mark k.1 am) k.2

    there : (c : ℕ) → Past c mark → (call : Call) × At h c call
    there c p =
        let low = w.earlier m c mark am p in
        let high = at-lt h m mark am in
        at-exists h c (omega (arith, low, high))

    other : (c : ℕ) (call : Call) → At h c call → Past c mark → call.tx ≢ mark.tx
    other c call a p q =
        let low = w.earlier m c mark am p in
        let le = w.first m c mark call am is a q in
        omega (arith, low, le)

pub none-closed : (h : List Call) (txs : List Tx) (v : ℕ → Bool) → ((c : ℕ) → v c ≡ false) → Closed h txs v
none-closed h txs v e = record {
  committed = λ c i. absurd (true≢false (sym i ∙ e c));
  down = λ c d call i a p. absurd (true≢false (sym i ∙ e c));
  whole = λ c d call f i a ad q. absurd (true≢false (sym i ∙ e c));
}

-- # In a history of more calls

pub record ClosedIn (h : List Call) (v : ℕ → Bool) : Type 0 where
  pub causes : (c d : ℕ) → v d ≡ true → before h c d ≡ true → v c ≡ true
  pub whole : (c d : ℕ) → v c ≡ true → same_tx h c d ≡ true → v d ≡ true

pub snapshot-in : (h : List Call) (bits : List Bool) (v : ℕ → Bool) → IsSnapshot h bits v → ClosedIn h v
snapshot-in h bits v k = record { causes = λ c d i b. k.causes c d i b; whole = λ c d i s. k.whole c d i s }

-- calls keep their numbers, and none is added to what is committed
pub record Later (h : List Call) (txs : List Tx) (h' : List Call) : Type 0 where
  pub calls : (c : ℕ) (call : Call) → At h c call → At h' c call
  pub added : (c : ℕ) (call : Call) → At h' c call → Committed txs call.tx → At h c call

pub closed-later : (h : List Call) (txs : List Tx) (h' : List Call) (v : ℕ → Bool) → Later h txs h' → Closed h txs v → ClosedIn h' v
closed-later h txs h' v l k = record {
  causes = λ c d i b.
      let m = k.committed d i in
      let n = in-before h' c d b in
      k.down d c m.0 i m.1 (subst (λ (x : Call). Past c x) (at-one h' d n.0 m.0 n.1 (l.calls d m.0 m.1)) n.2);
  whole = λ c d i s.
      let m = k.committed c i in
      let n = in-same h' c d s in
      let q : m.0.tx ≡ n.other.tx = ap (λ (x : Call). x.tx) (at-one h' c m.0 n.one (l.calls c m.0 m.1) n.first) ∙ n.same in
      k.whole c d m.0 n.other i m.1 (l.added d n.other n.second (subst (λ t. Committed txs t) q m.2)) (sym q);
}

-- the common part of two
pub both-in : (h : List Call) (v w : ℕ → Bool) → ClosedIn h v → ClosedIn h w → ClosedIn h (λ c. v c && w c)
both-in h v w k l = record {
  causes = λ c d i b. let e = and_parts (v d) (w d) i in and-make (v c) (w c) (k.causes c d e.0 b) (l.causes c d e.1 b);
  whole = λ c d i s. let e = and_parts (v c) (w c) i in and-make (v d) (w d) (k.whole c d e.0 s) (l.whole c d e.1 s);
}
