-- The laws of valid states, each as it is stated.
use Rattle.std.proofs.Common.{◌≡◌, ℕ, Bool, List, [], length, map, ◌∙◌, ap, inl, inr}
use Rattle.std.specs.declared.option.Option.TheVariants.{Some}
use Rattle.std.proofs.lemmas.Option.{none-some}
use Rattle.rp_lang.specs.Formulas.{Fo}
use Rattle.rp_lang.specs.Programs.{Prog}
use Rattle.crdt_defs.specs.Calls.{Call}
use Rattle.crdt_defs.specs.Histories.{call_is}
use Rattle.crdt_defs.specs.Snapshots.{bit}
use Rattle.crdt_defs.specs.Truths.{truth}
use Rattle.event_machine.specs.Machine.{Tx, State, info, at_snapshot}
use Rattle.event_machine.specs.WellFormed.{opened_by, commits_of}
use Rattle.event_machine.specs.Growth.{IsValid}
use Rattle.event_machine.specs.OldCalls.{old}
use Rattle.crdt_defs.specs.Longer.{IsLonger, Bounded}
use Rattle.event_machine.specs.Beside.{beside}
use Rattle.event_machine.specs.OwnCalls.{HasOneMarker, PastsGrow, PastsAreOwn, OwnAreSeen, MarkersAreSeen, ViewsAreMarked}
use Rattle.event_machine.proofs.PlaceLemmas.{at-one}
use Rattle.event_machine.proofs.TruthLonger.{truth-same}
use Rattle.event_machine.proofs.DataValues.{args-old}
use Rattle.event_machine.proofs.OwnCallLemmas.{one-marker, line-past, past-of, to-past-of, own-seen, mark-in_view, view-in_mark}

pub truth-beside : (p : Prog) (s : State) (visible : ℕ → Bool) (calls : List Call) (committed : List Bool) (f : Fo) → IsValid p s → Bounded s.calls visible → IsLonger s.calls calls
    → ((c : ℕ) → call_is calls (λ call. bit committed call.tx) c ≡ old s c) → truth (beside p s visible calls committed) [] f ≡ truth (at_snapshot p s visible) [] f
truth-beside p s visible calls committed f valid within longer same =
    truth-same p s.universe (map info s.invocations) visible [] s.calls calls (commits_of s.txs) committed (record {
      more = longer;
      comm = same;
      seen = within;
      args = λ c call k v m at atk. let t = valid.typed.calls c call at in args-old p (length s.calls) call.args _ t.2 k v atk;
      set = λ k v at. absurd (none-some (Some v) at);
    }) [] tt f

pub has-one_marker : (p : Prog) (s : State) → IsValid p s → HasOneMarker s
has-one_marker p s valid m n mark other at at' is is' same = one-marker p s valid m n mark other at at' is is' same

pub pasts-grow : (p : Prog) (s : State) → IsValid p s → PastsGrow s
pasts-grow p s valid c d b call later at at' same l past = line-past p s valid c d b call later at at' same l past

pub pasts-own : (p : Prog) (s : State) → IsValid p s → PastsAreOwn s
pasts-own p s valid m c d mark call other at is at' same apart atd = (
  (λ past. past-of p s valid m c d mark call other at is at' same atd past),
  (λ either. elim either [
    | inl past ↦ to-past-of p s valid m c d mark call at is at' same apart past
    | inr own ↦ valid.formed.history.inside d c other call atd at' own.0 own.1
  ]),
)

pub own-are_seen : (p : Prog) (s : State) → IsValid p s → OwnAreSeen s
own-are_seen p s valid i c inv call runs at of = own-seen p s valid i inv runs.0 runs.1 c call at of

pub markers-are_seen : (p : Prog) (s : State) → IsValid p s → MarkersAreSeen s
markers-are_seen p s valid i m c inv mark runs at is of past = mark-in_view p s valid i inv runs.0 runs.1 m c mark at is of past

pub views-are_marked : (p : Prog) (s : State) → IsValid p s → ViewsAreMarked s
views-are_marked p s valid i m c inv mark runs at is open' =
    let t = valid.formed.history.has_tx m mark at in
    let mine = valid.formed.linked.still_open i mark.tx inv runs.0 open' in
    let of : mark.inv ≡ i = t.2 ∙ ap (λ (x : Tx). x.inv) (at-one s.txs mark.tx t.0 (opened_by i) t.1 mine) in (
      (λ past. mark-in_view p s valid i inv runs.0 runs.1 m c mark at is of past),
      (λ seen. view-in_mark p s valid i inv runs.0 runs.1 m c mark at open' seen),
    )
