-- Consistent snapshots of a state: all that is committed, its part of any later one, and what a marker has before it.
use Rattle.std.proofs.Common.{◌≡◌, ◌≢◌, ℕ, Bool, true, false, List, [], ap, sym, ◌∙◌, subst, arith, nat_eq, inl, inr, true≢false, lt_trans}
use Rattle.std.specs.List.{list_any}
use Rattle.std.proofs.lemmas.Bool.{and_parts}
use Rattle.rp_lang.specs.Programs.{Prog}
use Rattle.crdt_defs.specs.Calls.{Call}
use Rattle.crdt_defs.specs.Histories.{before}
use Rattle.crdt_defs.specs.Snapshots.{bit}
use Rattle.crdt_defs.specs.Truths.{list_of, values}
use Rattle.event_machine.specs.Machine.{Tx, State, Label, Invoke, Begin, Op, Local, New, Commit, Return, Fail, Check, at_invocation, step}
use Rattle.event_machine.specs.Runs.{Leads}
use Rattle.event_machine.specs.WellFormed.{At, Past, Committed, IsMarker, commits_of, IsCausal}
use Rattle.event_machine.specs.OldCalls.{old, old_part}
use Rattle.event_machine.proofs.PlaceLemmas.{at-keep, at-lt, at-one, at-exists, same-or, in-call_is, to-call_is}
use Rattle.event_machine.proofs.ViewLemmas.{Closed, bit-committed, committed-bit, marker_call}
use Rattle.event_machine.proofs.MoveLemmas.{and-make, Does, step-moves}
use Rattle.event_machine.proofs.KeptLemmas.{own_call}

pub in-old : (s : State) (c : ℕ) → old s c ≡ true → (call : Call) × At s.calls c call × Committed s.txs call.tx
in-old s c m = let k = in-call_is s.calls (λ call. bit (commits_of s.txs) call.tx) c m in (k.0, k.1, bit-committed s.txs k.0.tx k.2)

pub to-old : (s : State) (c : ℕ) (call : Call) → At s.calls c call → Committed s.txs call.tx → old s c ≡ true
to-old s c call at k = to-call_is s.calls (λ call. bit (commits_of s.txs) call.tx) c call at (committed-bit s.txs call.tx k)

pub old-closed : (s : State) → IsCausal s.calls s.txs → Closed s.calls s.txs (old s)
old-closed s h = record {
  committed = in-old s;
  down = λ c d call m at past.
      let k = in-old s c m in
      let done : Committed s.txs call.tx = subst (λ (x : Call). Committed s.txs x.tx) (at-one s.calls c k.0 call k.1 at) k.2 in
      let e = at-exists s.calls d (lt_trans (h.earlier c d call at past) (at-lt s.calls c call at)) in
      to-old s d e.0 e.1 (elim (same-or e.0.tx call.tx) [
        | inl same ↦ subst (Committed s.txs) (sym same) done
        | inr other ↦ h.seen c d call e.0 at past e.1 other
      ]);
  whole = λ c d call e m at ate same.
      let k = in-old s c m in
      to-old s d e ate (subst (Committed s.txs) (ap (λ (x : Call). x.tx) (at-one s.calls c k.0 call k.1 at) ∙ sym same) k.2);
}

-- the committed part of a snapshot of a history to which calls were added
pub part-closed : (s : State) (calls : List Call) (txs : List Tx) (w : ℕ → Bool) → IsCausal s.calls s.txs → ((c : ℕ) (call : Call) → At s.calls c call → At calls c call)
    → Closed calls txs w → Closed s.calls s.txs (old_part s w)
part-closed s calls txs w h keep k =
    let o = old-closed s h in
    record {
      committed = λ c m. in-old s c (and_parts (w c) (old s c) m).1;
      down = λ c d call m at past.
          and-make (w d) (old s d) (k.down c d call (and_parts (w c) (old s c) m).0 (keep c call at) past) (o.down c d call (and_parts (w c) (old s c) m).1 at past);
      whole = λ c d call e m at ate same.
          and-make (w d) (old s d) (k.whole c d call e (and_parts (w c) (old s c) m).0 (keep c call at) (keep d e ate) same)
          (o.whole c d call e (and_parts (w c) (old s c) m).1 at ate same);
    }

-- an accepted label keeps the calls
does-keep : (p : Prog) (s : State) (label : Label) (new : State) → Does p s label new → (c : ℕ) (call : Call) → At s.calls c call → At new.calls c call
does-keep p s (Invoke proc args) new m c call at = subst (λ (n : State). At n.calls c call) (sym m.4) at
does-keep p s (Begin i stamp sees) new m c call at = subst (λ (n : State). At n.calls c call) (sym m.6) (at-keep s.calls (marker_call s i stamp sees) c call at)
does-keep p s (Op i stamp) new m c call at =
    subst (λ (n : State). At n.calls c call) (sym m.8)
    (at-keep s.calls (own_call s i stamp m.0 m.4 m.1 (list_of (values (at_invocation p s m.0) [] m.2))) c call at)
does-keep p s (Local i) new m c call at = subst (λ (n : State). At n.calls c call) (sym m.4) at
does-keep p s (New i id) new m c call at = subst (λ (n : State). At n.calls c call) (sym m.8) at
does-keep p s (Commit i) new m c call at = subst (λ (n : State). At n.calls c call) (sym m.8) at
does-keep p s (Return i) new m c call at = subst (λ (n : State). At n.calls c call) (sym m.4) at
does-keep p s (Fail i) new m c call at = subst (λ (n : State). At n.calls c call) (sym m.2) at
does-keep p s (Check sees) new m c call at = absurd m

pub step-keeps : (p : Prog) (s : State) (label : Label) (new : State) → IsCausal s.calls s.txs → Leads s (step p s label) new
    → (c : ℕ) (call : Call) → At s.calls c call → At new.calls c call
step-keeps p s label new h l c call at = elim (step-moves p s label new h l) [
  | inl same ↦ subst (λ (n : State). At n.calls c call) (sym same) at
  | inr m ↦ does-keep p s label new m c call at
]

pub mark-closed : (s : State) (mark : ℕ) (marker : Call) → IsCausal s.calls s.txs → At s.calls mark marker → IsMarker marker
    → Closed s.calls s.txs (λ c. before s.calls c mark)
mark-closed s mark marker h at_mark op = record {
  committed = λ c m.
      let past = past-of c m in
      let l = h.earlier mark c marker at_mark past in
      let e = at-exists s.calls c (lt_trans l (at-lt s.calls mark marker at_mark)) in
      (e.0, e.1, h.seen mark c marker e.0 at_mark past e.1 (other c e.0 past e.1));
  down = λ c d call m at past. to-past d (h.closed mark c d marker call at_mark (past-of c m) at past);
  whole = λ c d call e m at ate same.
      let past = past-of c m in
      to-past d (h.whole mark c d marker call e at_mark past at (other c call past at) ate same);
}
  where
    past-of : (c : ℕ) → before s.calls c mark ≡ true → Past c marker
    past-of c m =
        let k = in-call_is s.calls (λ call. list_any (λ b. nat_eq b c) call.past) mark m in
        subst (λ (x : Call). Past c x) (at-one s.calls mark k.0 marker k.1 at_mark) k.2

    to-past : (c : ℕ) → Past c marker → before s.calls c mark ≡ true
    to-past c past = to-call_is s.calls (λ call. list_any (λ b. nat_eq b c) call.past) mark marker at_mark past

    other : (c : ℕ) (e : Call) → Past c marker → At s.calls c e → e.tx ≢ marker.tx
    other c e past at same =
        let l = h.earlier mark c marker at_mark past in
        let f = h.first mark c marker e at_mark op at same in
        absurd (omega (arith, l, f))

pub nothing-closed : (s : State) → Closed s.calls s.txs (λ c. false)
nothing-closed s = record {
  committed = λ c m. absurd (true≢false (sym m));
  down = λ c d call m at past. absurd (true≢false (sym m));
  whole = λ c d call e m at ate same. absurd (true≢false (sym m));
}
