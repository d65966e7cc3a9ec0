-- What a call of an open transaction makes of a state, as the machine's effect says it.
use Rattle.std.proofs.Common.{◌≡◌, ℕ, zero, suc, ◌<◌, ◌≤◌, Bool, true, false, refl, sym, ◌∙◌, ap, subst, arith, List, [], ◌∷◌, ◌++◌, length, map, Option, Some, None, slice_get, slice_set, inl, inr, All}
use Rattle.std.specs.Prelude.{if◌then◌else◌, not}
use Rattle.std.specs.List.{list_any, list_all}
use Rattle.std.specs.Option.{option_map_or}
use Rattle.std.proofs.lemmas.Bool.{true≢false, false_from_ne_true, lt-leb, le-leb}
use Rattle.rp_value.specs.Values.{Val, Vals}
use Rattle.rp_value.specs.ValueView.{value_view, values_view}
use Rattle.rp_value.specs.declared.value.Value.{Value}
use Rattle.rp_lang.specs.Exprs.{Exs}
use Rattle.rp_lang.specs.declared.program.Program.{Program}
use Rattle.rp_lang.specs.declared.event.Event.TheVariants as event
use Rattle.rp_lang.specs.declared.limit.LimitName.{LimitName}
use Rattle.rp_lang.specs.declared.limit.LimitName.TheVariants as limit
use Rattle.rp_lang.specs.Programs.{Prog}
use Rattle.rp_lang.specs.ProgramView.{program_view}
use Rattle.crdt_defs.specs.declared.call.CallRec.{CallRec}
use Rattle.crdt_defs.specs.Atoms.{ints_fit}
use Rattle.crdt_defs.specs.Calls.{Call, call_view, calls_view}
use Rattle.crdt_defs.specs.Snapshots.{bit}
use Rattle.crdt_defs.specs.Truths.{Reading, list_of, values}
use Rattle.crdt_lib.proofs.HistoryLemmas.{seen_push, seen_length}
use Rattle.crdt_truth.specs.declared.reading.Info.{Info}
use Rattle.crdt_truth.proofs.ListValues.{list_back}
use Rattle.event_machine.specs.Code as left
use Rattle.event_machine.specs.Code.{Code}
use Rattle.event_machine.specs.States as seen
use Rattle.event_machine.specs.Machine as spec
use Rattle.event_machine.specs.WellFormed.{opened_by}
use Rattle.machine_state.specs.declared.state.Run.{Run}
use Rattle.machine_state.specs.declared.state.State.{State}
use Rattle.machine_state.specs.Fits.{Fits}
use Rattle.machine_state.specs.StateView.{inv_view, invs_view, txs_view, left_of, state_view}
use Rattle.machine_state.proofs.StateLemmas.{nothing, one_found, viewed_at}
use Rattle.machine_effects.specs.Limits.{limit_of, put_by_inv, put_next}
use Rattle.machine_effects.specs.Steps.{Tells, Does}
use Rattle.machine_effects.specs.means.Lefts as lefts
use Rattle.machine_effects.proofs.EffectLemmas.{nothing_done}
use Rattle.machine_effects.proofs.ViewLemmas.{set_found, any_set, invs_set_run, invs_calls, all_in}
use Rattle.machine_effects.proofs.KeptLemmas.{told_by, run_fits, kept_run, kept_call}

open_bit : (owners : List ℕ) (committed : List Bool) (tx : ℕ) (t : seen.Tx) → slice_get (txs_view owners committed) tx ≡ Some t → bit committed tx ≡ t.committed
open_bit [] committed tx t e = absurd (nothing t e)
open_bit (o ∷ owners) [] tx t e = absurd (nothing t e)
open_bit (o ∷ owners) (b ∷ committed) zero t e = ap (λ (t : seen.Tx). t.committed) (one_found (Some (record { inv = o; committed = b })) (record { inv = o; committed = b }) t refl e)
open_bit (o ∷ owners) (b ∷ committed) (suc tx) t e = open_bit owners committed tx t e

-- an open transaction is none of those that are committed
unseen_open : (committed : List Bool) (tx : ℕ) (xs : List ℕ) → bit committed tx ≡ false → All (λ t. bit committed t ≡ true) xs → spec.is_in xs tx ≡ false
unseen_open committed tx xs open_ all = false_from_ne_true (spec.is_in xs tx) (λ here. true≢false (sym (all_in (λ t. bit committed t ≡ true) xs tx all here) ∙ open_))

operate_by : (p : Program) (s : seen.State) (i stamp tx op : ℕ) (args : Exs) (inv : seen.Invocation) (own : Option ℕ) (code next : Code) → own ≡ Some tx → code ≡ left.Operate op args next
    → spec.operates (program_view p) s i stamp inv own code ≡ seen.Moved (spec.operated s i stamp inv tx op (list_of (values (spec.at_invocation (program_view p) s inv) [] args)) next)
operate_by p s i stamp tx op args inv own code next is_own is_code =
    ap (λ o. spec.operates (program_view p) s i stamp inv o code) is_own ∙ ap (spec.operates (program_view p) s i stamp inv (Some tx)) is_code

pub operate_does : (p : Program) (s : State) (i stamp tx op at : ℕ) (args : Exs) (vals : List Val) (info : Info) (run : Run) (call : CallRec) (next : Code) → Fits p s
    → slice_get s.infos i ≡ Some info → slice_get s.runs i ≡ Some run → length s.history < 16384 → run.tx ≡ Some tx
    → left_of (slice_get (program_view p).procs info.proc) run.at ≡ left.Operate op args next → left_of (slice_get (program_view p).procs info.proc) at ≡ next
    → vals ≡ list_of (values (spec.at_invocation (program_view p) (state_view (program_view p) s) (inv_view (program_view p) (calls_view s.history) info run)) [] args)
    → list_all ints_fit vals ≡ true
    → call_view call ≡ record { op = op; args = vals; inv = i; tx = tx; stamp = stamp; past = spec.listed (spec.reading_set (calls_view s.history) (inv_view (program_view p) (calls_view s.history) info run)) (length (calls_view s.history)) }
    → Does p s (seen.Op i stamp) (record s { history = s.history ++ call ∷ []; runs = slice_set s.runs i (record run { at = at }) }) event.Moved
operate_does p s i stamp tx op at args vals info run call next fits is_info is_run room own code behind is_vals fit is_call =
    let v = program_view p in
    let sv = state_view v s in
    let calls = calls_view s.history in
    let inv = inv_view v calls info run in
    let new : Run = record run { at = at } in
    let old = run_fits s i run fits.kept is_run in
    let at_inv = viewed_at v s i info run is_info is_run in
    let opened : slice_get sv.txs tx ≡ Some (opened_by i) = fits.well_formed.linked.still_open i tx inv at_inv own in
    let closed : bit s.committed tx ≡ false = open_bit s.owners s.committed tx (opened_by i) opened in
    let of_tx : (call_view call).tx ≡ tx = ap (λ (c : Call). c.tx) is_call in
    let unseen : (k : ℕ) (r : Run) → slice_get (slice_set s.runs i new) k ≡ Some r → spec.is_in r.seen (call_view call).tx ≡ false = λ k r e.
    ap (spec.is_in r.seen) of_tx
    ∙ elim (set_found s.runs i new k r e) [
      | inl h ↦ ap (λ (r : Run). spec.is_in r.seen tx) (sym h.1) ∙ unseen_open s.committed tx run.seen closed old.committed
      | inr h ↦ unseen_open s.committed tx r.seen closed (fits.kept.committed k r h)
    ] in
    let grown : calls_view (s.history ++ call ∷ []) ≡ calls ++ call_view call ∷ [] = seen_push s.history call in
    let invs : invs_view v (calls_view (s.history ++ call ∷ [])) s.infos (slice_set s.runs i new) ≡ slice_set sv.invocations i (record inv { left = next }) =
    ap (λ cs. invs_view v cs s.infos (slice_set s.runs i new)) grown
    ∙ invs_calls v calls (call_view call) s.infos (slice_set s.runs i new) unseen
    ∙ invs_set_run v calls s.infos s.runs i info new is_info
    ∙ ap (λ c. slice_set sv.invocations i (record inv { left = c })) behind in
    let found : List Val = list_of (values (spec.at_invocation v sv inv) [] args) in
    let made : State = record s { history = s.history ++ call ∷ []; runs = slice_set s.runs i new } in
    let target : List Val → Call = λ vs. record { op = op; args = vs; inv = i; tx = tx; stamp = stamp; past = spec.listed (spec.reading_set calls inv) (length calls) } in
    let effect : spec.effect v sv (seen.Op i stamp) ≡ seen.Moved (spec.operated sv i stamp inv tx op found next) =
    ap (λ o. option_map_or (λ inv. spec.operates v sv i stamp inv inv.tx inv.left) o (seen.Moved sv)) at_inv ∙ operate_by p sv i stamp tx op args inv run.tx inv.left next own code in
    let put : Option seen.Invocation → List Val = λ o. put_by_inv v sv (seen.Op i stamp) o in
    let puts : put (slice_get sv.invocations i) ≡ vals = ap put at_inv ∙ ap (λ c. put_next (spec.at_invocation v sv inv) (seen.Op i stamp) c) code ∙ sym is_vals in
    let same : length calls ≡ length s.history = seen_length s.history in
    record {
      within = ap (λ b. if b then Some limit.Calls else if not (list_all ints_fit (put (slice_get sv.invocations i))) then Some limit.Integer else None) (lt-leb 16384 (length calls) (omega arith))
          ∙ ap (λ b. if not b then Some limit.Integer else None) (ap (list_all ints_fit) puts ∙ fit);
      tells = subst (λ answer. Tells v s answer made event.Moved) (sym effect) (
        refl,
        ap (λ cs. record sv { calls = cs; invocations = invs_view v (calls_view (s.history ++ call ∷ [])) s.infos (slice_set s.runs i new) }) (grown ∙ ap (λ c. calls ++ c ∷ []) (is_call ∙ ap target is_vals))
            ∙ ap (λ is. record sv { calls = calls ++ target found ∷ []; invocations = is }) invs,
      );
      kept = kept_run (record s { history = s.history ++ call ∷ [] }) i new (kept_call s call fits.kept) (record { ascending = old.ascending; committed = old.committed; later = old.later; ints = old.ints })
          (told_by s.infos i info new is_info (fits.kept.told i info run is_info is_run));
      places = refl;
      known = λ x. fits.known x
          ∙ sym (ap (list_any (λ (inv : seen.Invocation). spec.stands_in x inv.standing)) invs
          ∙ any_set (λ (inv : seen.Invocation). spec.stands_in x inv.standing) sv.invocations i inv (record inv { left = next }) at_inv refl);
    }

-- # Limits, and where nothing is done

-- the limit of an operation whose values fit or not, while there is room for a call
pub op_limit : (p : Program) (s : State) (i stamp : ℕ) (inv : seen.Invocation) (code : Code) (fit : Bool) → length s.history < 16384
    → slice_get (state_view (program_view p) s).invocations i ≡ Some inv → inv.left ≡ code
    → list_all ints_fit (put_next (spec.at_invocation (program_view p) (state_view (program_view p) s) inv) (seen.Op i stamp) code) ≡ fit
    → limit_of (program_view p) (state_view (program_view p) s) (seen.Op i stamp) ≡ (if not fit then Some limit.Integer else None)
op_limit p s i stamp inv code fit room at is fits =
    let v = program_view p in
    let sv = state_view v s in
    let calls = calls_view s.history in
    let same : length calls ≡ length s.history = seen_length s.history in
    let put : Option seen.Invocation → List Val = λ o. put_by_inv v sv (seen.Op i stamp) o in
    let of : List Val → Option LimitName = λ vs. if not (list_all ints_fit vs) then Some limit.Integer else None in
    ap (λ b. if b then Some limit.Calls else of (put (slice_get sv.invocations i))) (lt-leb 16384 (length calls) (omega arith))
    ∙ ap (λ o. of (put o)) at
    ∙ ap (λ c. of (put_next (spec.at_invocation v sv inv) (seen.Op i stamp) c)) is
    ∙ ap (λ b. if not b then Some limit.Integer else None) fits

pub calls_limit : (p : Program) (s : State) (i stamp : ℕ) → 16384 ≤ length s.history
    → limit_of (program_view p) (state_view (program_view p) s) (seen.Op i stamp) ≡ Some limit.Calls
calls_limit p s i stamp full =
    let sv = state_view (program_view p) s in
    let calls = calls_view s.history in
    let same : length calls ≡ length s.history = seen_length s.history in
    ap (λ b. if b then Some limit.Calls else if not (list_all ints_fit (put_by_inv (program_view p) sv (seen.Op i stamp) (slice_get sv.invocations i))) then Some limit.Integer else None)
    (le-leb 16384 (length calls) (omega arith))

-- no values are put where no operation is next
none_put : (r : Reading) (i stamp : ℕ) (code : Code) → lefts.operation code ≡ None → list_all ints_fit (put_next r (seen.Op i stamp) code) ≡ true
none_put r i stamp (left.Put slot e next) is = refl
none_put r i stamp (left.Decide slot f next) is = refl
none_put r i stamp (left.New slot of next) is = refl
none_put r i stamp (left.Operate op args next) is = absurd (nothing (op, args, next) (sym is))
none_put r i stamp (left.Assert at f next) is = refl
none_put r i stamp (left.Choose f then_ else_) is = refl
none_put r i stamp (left.Match on arms) is = refl
none_put r i stamp (left.Begin next) is = refl
none_put r i stamp (left.End at next) is = refl
none_put r i stamp (left.Return at result) is = refl

none_done : (p : Prog) (s : seen.State) (i stamp : ℕ) (inv : seen.Invocation) (own : Option ℕ) (code : Code) → lefts.operation code ≡ None → spec.operates p s i stamp inv own code ≡ seen.Moved s
none_done p s i stamp inv None code is = refl
none_done p s i stamp inv (Some tx) (left.Put slot e next) is = refl
none_done p s i stamp inv (Some tx) (left.Decide slot f next) is = refl
none_done p s i stamp inv (Some tx) (left.New slot of next) is = refl
none_done p s i stamp inv (Some tx) (left.Operate op args next) is = absurd (nothing (op, args, next) (sym is))
none_done p s i stamp inv (Some tx) (left.Assert at f next) is = refl
none_done p s i stamp inv (Some tx) (left.Choose f then_ else_) is = refl
none_done p s i stamp inv (Some tx) (left.Match on arms) is = refl
none_done p s i stamp inv (Some tx) (left.Begin next) is = refl
none_done p s i stamp inv (Some tx) (left.End at next) is = refl
none_done p s i stamp inv (Some tx) (left.Return at result) is = refl

pub operation_some : (code : Code) (found : ℕ × Exs × Code) → lefts.operation code ≡ Some found → code ≡ left.Operate found.0 found.1 found.2
operation_some (left.Put slot e next) found is = absurd (nothing found is)
operation_some (left.Decide slot f next) found is = absurd (nothing found is)
operation_some (left.New slot of next) found is = absurd (nothing found is)
operation_some (left.Operate op args next) found is = ap (λ (f : ℕ × Exs × Code). left.Operate f.0 f.1 f.2) (one_found (Some (op, args, next)) (op, args, next) found refl is)
operation_some (left.Assert at f next) found is = absurd (nothing found is)
operation_some (left.Choose f then_ else_) found is = absurd (nothing found is)
operation_some (left.Match on arms) found is = absurd (nothing found is)
operation_some (left.Begin next) found is = absurd (nothing found is)
operation_some (left.End at next) found is = absurd (nothing found is)
operation_some (left.Return at result) found is = absurd (nothing found is)

-- nothing is done where something else is next
pub operate_nothing : (p : Program) (s : State) (i stamp : ℕ) (inv : seen.Invocation) → Fits p s → length s.history < 16384
    → slice_get (state_view (program_view p) s).invocations i ≡ Some inv → lefts.operation inv.left ≡ None → Does p s (seen.Op i stamp) s event.Moved
operate_nothing p s i stamp inv fits room at none =
    let v = program_view p in
    let sv = state_view v s in
    nothing_done p s (seen.Op i stamp) fits
    (op_limit p s i stamp inv inv.left true room at refl (none_put (spec.at_invocation v sv inv) i stamp inv.left none))
    (ap (λ o. option_map_or (λ (inv : seen.Invocation). spec.operates v sv i stamp inv inv.tx inv.left) o (seen.Moved sv)) at ∙ none_done v sv i stamp inv inv.tx inv.left none)

-- or where no transaction is open
pub operate_alone : (p : Program) (s : State) (i stamp : ℕ) (inv : seen.Invocation) (code : Code) → Fits p s → length s.history < 16384
    → slice_get (state_view (program_view p) s).invocations i ≡ Some inv → inv.left ≡ code → inv.tx ≡ None
    → list_all ints_fit (put_next (spec.at_invocation (program_view p) (state_view (program_view p) s) inv) (seen.Op i stamp) code) ≡ true
    → Does p s (seen.Op i stamp) s event.Moved
operate_alone p s i stamp inv code fits room at is none fit =
    let v = program_view p in
    let sv = state_view v s in
    nothing_done p s (seen.Op i stamp) fits
    (op_limit p s i stamp inv code true room at is fit)
    (ap (λ o. option_map_or (λ (inv : seen.Invocation). spec.operates v sv i stamp inv inv.tx inv.left) o (seen.Moved sv)) at ∙ ap (λ o. spec.operates v sv i stamp inv o inv.left) none)

-- the arguments as definitions speak of them
pub args_are : (args : List Value) (vals : Vals) → values_view args ≡ vals → map value_view args ≡ list_of vals
args_are args vals is = sym (list_back (map value_view args)) ∙ ap list_of is
