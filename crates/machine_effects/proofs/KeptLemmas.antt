-- What a state keeps when something in it is written or added.
use Rattle.std.proofs.Common.{◌≡◌, ℕ, zero, suc, refl, ap, ◌+◌, ◌<◌, ◌≤◌, Bool, true, false, sym, ◌∙◌, subst, arith, List, [], ◌∷◌, ◌++◌, length, get_or, Option, Some, slice_get, slice_set, inl, inr, All, nat_eq}
use Rattle.std.specs.List.Sorted.{IsStrictlyIncreasing}
use Rattle.std.proofs.lemmas.Bool.{cases_lt, true≢false, or_right}
use Rattle.std.proofs.lemmas.List.{length-set, length_push, get_or_past, get_or_append_left}
use Rattle.rp_value.specs.declared.value.Value.{Value}
use Rattle.rp_value.specs.ValueView.{value_view}
use Rattle.crdt_defs.specs.declared.call.CallRec.{CallRec}
use Rattle.crdt_defs.specs.Atoms.{ints_fit}
use Rattle.crdt_defs.specs.Snapshots.{bit}
use Rattle.crdt_truth.specs.declared.reading.Info.{Info}
use Rattle.machine_state.specs.declared.state.Run.{Run}
use Rattle.machine_state.specs.declared.state.State.{State}
use Rattle.machine_state.specs.Accessors.{has_ended, is_returned}
use Rattle.machine_state.specs.Fits.{IsKept}
use Rattle.machine_state.proofs.StateLemmas.{nothing, one_found}
use Rattle.machine_tests.proofs.ClosedLemmas.{bit_set}
use Rattle.machine_effects.proofs.ViewLemmas.{set_found, end_found}

-- # Rows of bits

pub bit_within : (row : List Bool) (n : ℕ) → bit row n ≡ true → n < length row
bit_within row n here =
    elim (cases_lt n (length row)) [
      | inl lt ↦ lt
      | inr le ↦ absurd (true≢false (sym here ∙ get_or_past row n false le))
    ]

pub bit_more : (row : List Bool) (b : Bool) (n : ℕ) → bit row n ≡ true → bit (row ++ b ∷ []) n ≡ true
bit_more row b n here =
    let same : bit (row ++ b ∷ []) n ≡ bit row n = get_or_append_left row (b ∷ []) false n (bit_within row n here) in
    same ∙ here

still_set : (row : List Bool) (x n : ℕ) → x < length row → bit row n ≡ true → bit (slice_set row x true) n ≡ true
still_set row x n lt here = bit_set row x n lt ∙ or_right (nat_eq x n) (bit row n) here

-- # One run

abbrev pub IntsFit : List (Option Value) → Type 0
IntsFit slots = (n : ℕ) (v : Value) → slice_get slots n ≡ Some (Some v) → ints_fit (value_view v) ≡ true

pub record RunFits (bits : List Bool) (run : Run) : Type 0 where
  pub ascending : IsStrictlyIncreasing run.seen
  pub committed : All (λ tx. bit bits tx ≡ true) run.seen
  pub later : (t : ℕ) → run.tx ≡ Some t → All (λ tx. tx < t) run.seen
  pub ints : IntsFit run.slots

pub run_fits : (s : State) (i : ℕ) (run : Run) → IsKept s → slice_get s.runs i ≡ Some run → RunFits s.committed run
run_fits s i run kept is = record {
  ascending = kept.ascending i run is;
  committed = kept.committed i run is;
  later = λ t own. kept.later i t run is own;
  ints = λ n v at_n. kept.ints i n run v is at_n;
}

-- the outcome of the invocation is that of one that stands so
abbrev pub IsTold : List Info → ℕ → Run → Type 0
IsTold infos i run = (info : Info) → slice_get infos i ≡ Some info → has_ended info.outcome ≡ is_returned run.standing

pub told_by : (infos : List Info) (i : ℕ) (info : Info) (run : Run) → slice_get infos i ≡ Some info → has_ended info.outcome ≡ is_returned run.standing → IsTold infos i run
told_by infos i info run is ends other at = ap (λ (info : Info). has_ended info.outcome) (one_found (slice_get infos i) other info at is) ∙ ends

pub kept_run : (s : State) (i : ℕ) (run : Run) → IsKept s → RunFits s.committed run → IsTold s.infos i run → IsKept (record s { runs = slice_set s.runs i run })
kept_run s i run kept fits told =
    let same : length (slice_set s.runs i run) ≡ length s.runs = length-set s.runs i run in
    let few : length s.runs ≤ 16384 = kept.few in
    record {
      few = omega arith;
      runs = kept.runs ∙ sym same;
      txs = kept.txs;
      calls = kept.calls;
      ascending = λ k r e. elim (set_found s.runs i run k r e) [ inl h ↦ subst (λ (r : Run). IsStrictlyIncreasing r.seen) h.1 fits.ascending | inr h ↦ kept.ascending k r h ];
      committed = λ k r e. elim (set_found s.runs i run k r e) [ inl h ↦ subst (λ (r : Run). All (λ tx. bit s.committed tx ≡ true) r.seen) h.1 fits.committed | inr h ↦ kept.committed k r h ];
      later = λ k t r e. elim (set_found s.runs i run k r e) [ inl h ↦ subst (λ (r : Run). r.tx ≡ Some t → All (λ tx. tx < t) r.seen) h.1 (fits.later t) | inr h ↦ kept.later k t r h ];
      ints = λ k n r v e. elim (set_found s.runs i run k r e) [ inl h ↦ subst (λ (r : Run). slice_get r.slots n ≡ Some (Some v) → ints_fit (value_view v) ≡ true) h.1 (fits.ints n v) | inr h ↦ kept.ints k n r v h ];
      told = λ k info r at_k e. elim (set_found s.runs i run k r e) [
        | inl h ↦
            told info (ap (slice_get s.infos) (sym h.0) ∙ at_k)
            ∙ ap (λ (r : Run). is_returned r.standing) h.1
        | inr h ↦ kept.told k info r at_k h
      ];
    }

-- what is written at one place of both lists agrees there, and elsewhere what stood there
end_told : (infos : List Info) (runs : List Run) (i : ℕ) (info : Info) (run : Run) → has_ended info.outcome ≡ is_returned run.standing
    → ((k : ℕ) (x : Info) (r : Run) → slice_get infos k ≡ Some x → slice_get runs k ≡ Some r → has_ended x.outcome ≡ is_returned r.standing)
    → (k : ℕ) (x : Info) (r : Run) → slice_get (slice_set infos i info) k ≡ Some x → slice_get (slice_set runs i run) k ≡ Some r → has_ended x.outcome ≡ is_returned r.standing
end_told [] runs i info run ends told k x r at_k e = absurd (nothing x at_k)
end_told (y ∷ infos) [] i info run ends told k x r at_k e = absurd (nothing r e)
end_told (y ∷ infos) (q ∷ runs) zero info run ends told zero x r at_k e =
    ap (λ (x : Info). has_ended x.outcome) (sym (one_found (Some info) info x refl at_k)) ∙ ends ∙ ap (λ (r : Run). is_returned r.standing) (one_found (Some run) run r refl e)
end_told (y ∷ infos) (q ∷ runs) zero info run ends told (suc k) x r at_k e = told (suc k) x r at_k e
end_told (y ∷ infos) (q ∷ runs) (suc i) info run ends told zero x r at_k e = told zero x r at_k e
end_told (y ∷ infos) (q ∷ runs) (suc i) info run ends told (suc k) x r at_k e = end_told infos runs i info run ends (λ k x r a b. told (suc k) x r a b) k x r at_k e

-- an invocation ends: its outcome and where it stands are written together
pub kept_end : (s : State) (i : ℕ) (info : Info) (run : Run) → IsKept s → RunFits s.committed run → has_ended info.outcome ≡ is_returned run.standing
    → IsKept (record s { infos = slice_set s.infos i info; runs = slice_set s.runs i run })
kept_end s i info run kept fits ends =
    let same : length (slice_set s.runs i run) ≡ length s.runs = length-set s.runs i run in
    let few : length s.runs ≤ 16384 = kept.few in
    record {
      few = omega arith;
      runs = length-set s.infos i info ∙ kept.runs ∙ sym same;
      txs = kept.txs;
      calls = kept.calls;
      ascending = λ k r e. elim (set_found s.runs i run k r e) [ inl h ↦ subst (λ (r : Run). IsStrictlyIncreasing r.seen) h.1 fits.ascending | inr h ↦ kept.ascending k r h ];
      committed = λ k r e. elim (set_found s.runs i run k r e) [ inl h ↦ subst (λ (r : Run). All (λ tx. bit s.committed tx ≡ true) r.seen) h.1 fits.committed | inr h ↦ kept.committed k r h ];
      later = λ k t r e. elim (set_found s.runs i run k r e) [ inl h ↦ subst (λ (r : Run). r.tx ≡ Some t → All (λ tx. tx < t) r.seen) h.1 (fits.later t) | inr h ↦ kept.later k t r h ];
      ints = λ k n r v e. elim (set_found s.runs i run k r e) [ inl h ↦ subst (λ (r : Run). slice_get r.slots n ≡ Some (Some v) → ints_fit (value_view v) ≡ true) h.1 (fits.ints n v) | inr h ↦ kept.ints k n r v h ];
      told = λ k x r at_k e. end_told s.infos s.runs i info run ends (kept.told) k x r at_k e;
    }

more_told : (infos : List Info) (runs : List Run) (info : Info) (run : Run) → length infos ≡ length runs → has_ended info.outcome ≡ is_returned run.standing
    → ((k : ℕ) (x : Info) (r : Run) → slice_get infos k ≡ Some x → slice_get runs k ≡ Some r → has_ended x.outcome ≡ is_returned r.standing)
    → (k : ℕ) (x : Info) (r : Run) → slice_get (infos ++ info ∷ []) k ≡ Some x → slice_get (runs ++ run ∷ []) k ≡ Some r → has_ended x.outcome ≡ is_returned r.standing
more_told [] [] info run same ends told zero x r at_k e =
    ap (λ (x : Info). has_ended x.outcome) (sym (one_found (Some info) info x refl at_k)) ∙ ends ∙ ap (λ (r : Run). is_returned r.standing) (one_found (Some run) run r refl e)
more_told [] [] info run same ends told (suc k) x r at_k e = absurd (nothing x at_k)
more_told [] (q ∷ runs) info run same ends told k x r at_k e = absurd (omega arith)
more_told (y ∷ infos) [] info run same ends told k x r at_k e = absurd (omega arith)
more_told (y ∷ infos) (q ∷ runs) info run same ends told zero x r at_k e = told zero x r at_k e
more_told (y ∷ infos) (q ∷ runs) info run same ends told (suc k) x r at_k e = more_told infos runs info run (omega arith) ends (λ k x r a b. told (suc k) x r a b) k x r at_k e

-- one invocation more
pub kept_more : (s : State) (info : Info) (run : Run) → length s.runs < 16384 → IsKept s → RunFits s.committed run → has_ended info.outcome ≡ is_returned run.standing
    → IsKept (record s { infos = s.infos ++ info ∷ []; runs = s.runs ++ run ∷ [] })
kept_more s info run room kept fits ends =
    let more : length (s.runs ++ run ∷ []) ≡ length s.runs + 1 = length_push s.runs run in
    let also : length (s.infos ++ info ∷ []) ≡ length s.infos + 1 = length_push s.infos info in
    let same : length s.infos ≡ length s.runs = kept.runs in
    record {
      few = omega arith;
      runs = omega arith;
      txs = kept.txs;
      calls = kept.calls;
      ascending = λ k r e. elim (end_found s.runs run k r e) [ inl h ↦ subst (λ (r : Run). IsStrictlyIncreasing r.seen) h fits.ascending | inr h ↦ kept.ascending k r h ];
      committed = λ k r e. elim (end_found s.runs run k r e) [ inl h ↦ subst (λ (r : Run). All (λ tx. bit s.committed tx ≡ true) r.seen) h fits.committed | inr h ↦ kept.committed k r h ];
      later = λ k t r e. elim (end_found s.runs run k r e) [ inl h ↦ subst (λ (r : Run). r.tx ≡ Some t → All (λ tx. tx < t) r.seen) h (fits.later t) | inr h ↦ kept.later k t r h ];
      ints = λ k n r v e. elim (end_found s.runs run k r e) [ inl h ↦ subst (λ (r : Run). slice_get r.slots n ≡ Some (Some v) → ints_fit (value_view v) ≡ true) h (fits.ints n v) | inr h ↦ kept.ints k n r v h ];
      told = more_told s.infos s.runs info run same ends kept.told;
    }

-- a call more
pub kept_call : (s : State) (call : CallRec) → IsKept s → IsKept (record s { history = s.history ++ call ∷ [] })
kept_call s call kept =
    let more : length (s.history ++ call ∷ []) ≡ length s.history + 1 = length_push s.history call in
    let few : length s.owners ≤ length s.history = kept.calls in
    record {
      few = kept.few;
      runs = kept.runs;
      txs = kept.txs;
      calls = omega arith;
      ascending = kept.ascending;
      committed = kept.committed;
      later = kept.later;
      ints = kept.ints;
      told = kept.told;
    }

-- a transaction more, with a call
pub kept_tx : (s : State) (owner : ℕ) (call : CallRec) → IsKept s
    → IsKept (record s { owners = s.owners ++ owner ∷ []; committed = s.committed ++ false ∷ []; history = s.history ++ call ∷ [] })
kept_tx s owner call kept =
    let calls : length (s.history ++ call ∷ []) ≡ length s.history + 1 = length_push s.history call in
    let owners : length (s.owners ++ owner ∷ []) ≡ length s.owners + 1 = length_push s.owners owner in
    let bits : length (s.committed ++ false ∷ []) ≡ length s.committed + 1 = length_push s.committed false in
    let few : length s.owners ≤ length s.history = kept.calls in
    let same : length s.owners ≡ length s.committed = kept.txs in
    record {
      few = kept.few;
      runs = kept.runs;
      txs = omega arith;
      calls = omega arith;
      ascending = kept.ascending;
      committed = λ i run is k d lt. bit_more s.committed false (get_or run.seen k d) (kept.committed i run is k d lt);
      later = kept.later;
      ints = kept.ints;
      told = kept.told;
    }

-- a transaction is committed
pub kept_commit : (s : State) (tx : ℕ) → tx < length s.committed → IsKept s → IsKept (record s { committed = slice_set s.committed tx true })
kept_commit s tx lt kept = record {
  few = kept.few;
  runs = kept.runs;
  txs = kept.txs ∙ sym (length-set s.committed tx true);
  calls = kept.calls;
  ascending = kept.ascending;
  committed = λ i run is k d low. still_set s.committed tx (get_or run.seen k d) lt (kept.committed i run is k d low);
  later = kept.later;
  ints = kept.ints;
  told = kept.told;
}
