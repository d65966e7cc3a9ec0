-- Labels that only add calls of open transactions keep all invariants.
use Rattle.std.proofs.Common.{◌≡◌, ◌≢◌, ℕ, zero, suc, Bool, true, List, [], ◌∷◌, ◌++◌, map, refl, ap, ap₂, sym, ◌∙◌, subst, length, slice_set, inl, inr, true≢false}
use Rattle.std.specs.declared.option.Option.TheVariants.{Some}
use Rattle.std.proofs.lemmas.Option.{none-some, same_Some}
use Rattle.rp_lang.specs.Programs.{Prog}
use Rattle.crdt_defs.specs.Calls.{Call}
use Rattle.crdt_defs.specs.Snapshots.{bit}
use Rattle.crdt_defs.specs.Truths.{list_of, values, truth}
use Rattle.event_machine.specs.Machine.{Failed, Invocation, Tx, State, Label, Invoke, Begin, Op, Local, New, Commit, Return, Fail, Check, info, calls_of, result_of, at_invocation, with_slot, step}
use Rattle.event_machine.specs.Runs.{Leads}
use Rattle.event_machine.specs.WellFormed.{At, Committed, opened_by, commits_of}
use Rattle.event_machine.specs.TypedStates.{IsTyped}
use Rattle.event_machine.specs.Growth.{IsValid}
use Rattle.event_machine.specs.LocalSafety.{HoldsAll}
use Rattle.event_machine.specs.OldCalls.{is_quiet}
use Rattle.event_machine.proofs.PlaceLemmas.{longer-from, both-ways, at-push, at-keep, at-new, at-one, at-lt, in-call_is, to-call_is}
use Rattle.event_machine.proofs.CausalLemmas.{committed-push, committed-back}
use Rattle.event_machine.proofs.ViewLemmas.{Closed, bit-committed, committed-bit, closed-snapshot, snapshot-closed, marker_call}
use Rattle.event_machine.proofs.MoveLemmas.{Does, step-moves}
use Rattle.event_machine.proofs.KeptLemmas.{own_call}
use Rattle.event_machine.proofs.TruthLonger.{over, IsExtended, truth-same}
use Rattle.event_machine.proofs.DataValues.{args-old}

pub infos-set : (invs : List Invocation) (i : ℕ) (inv new : Invocation) → At invs i inv → info new ≡ info inv → map info (slice_set invs i new) ≡ map info invs
infos-set [] i inv new at e = refl
infos-set (x ∷ invs) zero inv new at e = ap (λ y. y ∷ map info invs) (e ∙ ap info (sym (same_Some x inv at)))
infos-set (x ∷ invs) (suc i) inv new at e = ap (λ ys. info x ∷ ys) (infos-set invs i inv new at e)

-- What may come between: calls of transactions that aren't committed.
pub record Adds (s new : State) : Type 0 where
  pub universe : new.universe ≡ s.universe
  pub infos : map info new.invocations ≡ map info s.invocations
  pub keep : (c : ℕ) (call : Call) → At s.calls c call → At new.calls c call
  pub back : (c : ℕ) (call : Call) → At new.calls c call → Committed new.txs call.tx → At s.calls c call × Committed s.txs call.tx
  pub forth : (t : ℕ) → Committed s.txs t → Committed new.txs t

adds-closed : (s new : State) (v : ℕ → Bool) → Adds s new → Closed new.calls new.txs v → Closed s.calls s.txs v
adds-closed s new v a h = record {
  committed = λ c m. let k = h.committed c m in let b = a.back c k.0 k.1 k.2 in (k.0, b.0, b.1);
  down = λ c d call m at p. h.down c d call m (a.keep c call at) p;
  whole = λ c d call e m at ate same. h.whole c d call e m (a.keep c call at) (a.keep d e ate) same;
}

adds-extended : (p : Prog) (s new : State) (v : ℕ → Bool) → IsTyped p s → Adds s new → Closed s.calls s.txs v
    → IsExtended s.calls new.calls (commits_of s.txs) (commits_of new.txs) v []
adds-extended p s new v typed a closed = record {
  more = longer-from s.calls new.calls a.keep;
  comm = λ c. both-ways _ _
      (λ m.
      let k = in-call_is new.calls (λ call. bit (commits_of new.txs) call.tx) c m in
      let b = a.back c k.0 k.1 (bit-committed new.txs k.0.tx k.2) in
      to-call_is s.calls (λ call. bit (commits_of s.txs) call.tx) c k.0 b.0 (committed-bit s.txs k.0.tx b.1))
      (λ m.
      let k = in-call_is s.calls (λ call. bit (commits_of s.txs) call.tx) c m in
      to-call_is new.calls (λ call. bit (commits_of new.txs) call.tx) c k.0 (a.keep c k.0 k.1) (committed-bit new.txs k.0.tx (a.forth k.0.tx (bit-committed s.txs k.0.tx k.2))));
  seen = λ c m. let k = closed.committed c m in at-lt s.calls c k.0 k.1;
  args = λ c call k v m at atk. let t = typed.calls c call at in args-old p (length s.calls) call.args _ t.2 k v atk;
  set = λ k v at. absurd (none-some (Some v) at);
}

pub holds-adds : (p : Prog) (s new : State) → IsTyped p s → Adds s new → HoldsAll p s → HoldsAll p new
holds-adds p s new typed a h v snapshot n inv at =
    let closed = adds-closed s new v a (closed-snapshot new.calls new.txs v snapshot) in
    ap₂ (λ u infos. truth (over p u infos v [] new.calls (commits_of new.txs)) [] inv.body) a.universe a.infos
    ∙ (truth-same p s.universe (map info s.invocations) v [] s.calls new.calls (commits_of s.txs) (commits_of new.txs) (adds-extended p s new v typed a closed) [] tt inv.body
    ∙ h v (snapshot-closed s.calls s.txs v closed) n inv at)

-- # The labels

-- calls and transactions stay
same-calls : (s new : State) (i : ℕ) (inv after : Invocation) → At s.invocations i inv → info after ≡ info inv → new.universe ≡ s.universe
    → new.invocations ≡ slice_set s.invocations i after → new.calls ≡ s.calls → new.txs ≡ s.txs → Adds s new
same-calls s new i inv after at told universe invs calls txs = record {
  universe = universe;
  infos = ap (map info) invs ∙ infos-set s.invocations i inv after at told;
  keep = λ c call at. subst (λ calls. At calls c call) (sym calls) at;
  back = λ c call at k. (subst (λ calls. At calls c call) calls at, subst (λ txs. Committed txs call.tx) txs k);
  forth = λ t k. subst (λ txs. Committed txs t) (sym txs) k;
}

quiet-adds : (p : Prog) (s : State) (label : Label) (new : State) → IsValid p s → is_quiet label ≡ true → Does p s label new → Adds s new
quiet-adds p s (Begin i stamp sees) new valid quiet m =
    let v : Invocation = m.0 in
    let mark : Call = marker_call s i stamp sees in
    let after : Invocation = record v { view = calls_of s.calls sees; tx = Some (length s.txs); left = m.1 } in
    subst (Adds s) (sym m.6) (record {
      universe = refl;
      infos = infos-set s.invocations i v after m.2.is refl;
      keep = λ c call at. at-keep s.calls mark c call at;
      back = λ c call at k. elim (at-push s.calls mark c call at) [
        | inl old ↦ (old, committed-back s.txs i call.tx k)
        | inr new' ↦
            let t : call.tx ≡ length s.txs = ap (λ (x : Call). x.tx) new'.1 in
            let k' = subst (Committed (s.txs ++ opened_by i ∷ [])) t k in
            let open' = at-one (s.txs ++ opened_by i ∷ []) (length s.txs) k'.0 (opened_by i) k'.1 (at-new s.txs (opened_by i)) in
            absurd (true≢false (sym k'.2 ∙ ap (λ (x : Tx). x.committed) open'))
      ];
      forth = λ t k. committed-push s.txs (opened_by i) t k;
    })
quiet-adds p s (Op i stamp) new valid quiet m =
    let v : Invocation = m.0 in
    let added : Call = own_call s i stamp v m.4 m.1 (list_of (values (at_invocation p s v) [] m.2)) in
    subst (Adds s) (sym m.8) (record {
      universe = refl;
      infos = infos-set s.invocations i v (record v { left = m.3 }) m.5.is refl;
      keep = λ c call at. at-keep s.calls added c call at;
      back = λ c call at k. elim (at-push s.calls added c call at) [
        | inl old ↦ (old, k)
        | inr new' ↦
            let k' : Committed s.txs m.4 = subst (λ (x : Call). Committed s.txs x.tx) new'.1 k in
            let mine = valid.formed.linked.still_open i m.4 v m.5.is m.6 in
            absurd (true≢false (sym k'.2 ∙ ap (λ (x : Tx). x.committed) (at-one s.txs m.4 k'.0 (opened_by i) k'.1 mine)))
      ];
      forth = λ t k. k;
    })
quiet-adds p s (Local i) new valid quiet m =
    let v : Invocation = m.0 in
    let after : Invocation = m.1 in
    let told : info after ≡ info v = λ k. record { proc = m.3.proc k; args = m.3.args k; result = result_of (m.3.standing k) } in
    subst (Adds s) (sym m.4) (same-calls s _ i v after m.2.is told refl refl refl refl)
quiet-adds p s (New i id) new valid quiet m =
    let v : Invocation = m.0 in
    let after : Invocation = record (with_slot v m.1 id) { left = m.3 } in
    subst (Adds s) (sym m.8) (same-calls s _ i v after m.4.is refl refl refl refl refl)
quiet-adds p s (Fail i) new valid quiet m =
    let v : Invocation = m.0 in
    let after : Invocation = record v { standing = Failed } in
    let back = sym m.1.running in
    let told : info after ≡ info v = λ k. record { proc = v.proc; args = v.args; result = result_of (back k) } in
    subst (Adds s) (sym m.2) (same-calls s _ i v after m.1.is told refl refl refl refl)
quiet-adds p s (Invoke proc args) new valid quiet m = absurd (true≢false (sym quiet))
quiet-adds p s (Commit i) new valid quiet m = absurd (true≢false (sym quiet))
quiet-adds p s (Return i) new valid quiet m = absurd (true≢false (sym quiet))
quiet-adds p s (Check sees) new valid quiet m = absurd (true≢false (sym quiet))

pub quiet-holds : (p : Prog) (s : State) (label : Label) (new : State) → IsValid p s → is_quiet label ≡ true → HoldsAll p s
    → Leads s (step p s label) new → HoldsAll p new
quiet-holds p s label new valid quiet holds l = elim (step-moves p s label new valid.formed.history l) [
  | inl same ↦ subst (HoldsAll p) (sym same) holds
  | inr m ↦ holds-adds p s new valid.typed (quiet-adds p s label new valid quiet m) holds
]

-- # Snapshots

does-back : (p : Prog) (s : State) (label : Label) (new : State) (seen : ℕ → Bool) → IsValid p s → ((i : ℕ) → label ≢ Commit i) → Does p s label new
    → Closed new.calls new.txs seen → Closed s.calls s.txs seen
does-back p s (Invoke proc args) new seen valid other m k = subst (λ (n : State). Closed n.calls n.txs seen) m.4 k
does-back p s (Begin i stamp sees) new seen valid other m k = adds-closed s new seen (quiet-adds p s (Begin i stamp sees) new valid refl m) k
does-back p s (Op i stamp) new seen valid other m k = adds-closed s new seen (quiet-adds p s (Op i stamp) new valid refl m) k
does-back p s (Local i) new seen valid other m k = adds-closed s new seen (quiet-adds p s (Local i) new valid refl m) k
does-back p s (New i id) new seen valid other m k = adds-closed s new seen (quiet-adds p s (New i id) new valid refl m) k
does-back p s (Commit i) new seen valid other m k = absurd (other i refl)
does-back p s (Return i) new seen valid other m k = subst (λ (n : State). Closed n.calls n.txs seen) m.4 k
does-back p s (Fail i) new seen valid other m k = adds-closed s new seen (quiet-adds p s (Fail i) new valid refl m) k
does-back p s (Check sees) new seen valid other m k = absurd m

-- a snapshot after a label that isn't a commit is one before it
pub snapshot-back : (p : Prog) (s : State) (label : Label) (new : State) (seen : ℕ → Bool) → IsValid p s → ((i : ℕ) → label ≢ Commit i) → Leads s (step p s label) new
    → Closed new.calls new.txs seen → Closed s.calls s.txs seen
snapshot-back p s label new seen valid other l k = elim (step-moves p s label new valid.formed.history l) [
  | inl same ↦ subst (λ (n : State). Closed n.calls n.txs seen) same k
  | inr m ↦ does-back p s label new seen valid other m k
]
