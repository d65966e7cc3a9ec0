-- What writes make of a state, as the machine's effects say it.
use Rattle.std.proofs.Common.{◌≡◌, ℕ, zero, suc, ◌+◌, ◌<◌, ◌≤◌, Bool, true, false, ◌||◌, refl, sym, ◌∙◌, ap, subst, arith, List, [], ◌∷◌, ◌++◌, length, map, get_or, Option, Some, None, slice_get, slice_set, inl, inr, All}
use Rattle.std.specs.Prelude.{if◌then◌else◌, option_map, not, replicate, ◌-◌}
use Rattle.std.specs.List.{list_any, list_all}
use Rattle.std.specs.List.Sorted.{IsStrictlyIncreasing}
use Rattle.std.specs.Option.{option_map_or}
use Rattle.std.proofs.lemmas.Bool.{true≢false, false_from_ne_true, lt-leb, le-leb, and_parts}
use Rattle.std.proofs.lemmas.List.{append-nil, append_assoc, replicate_more, get_or_default, get_or_past, get_or-set_same, map-append, map-set, length-map}
use Rattle.std.proofs.lemmas.List.Elements.{All-push}
use Rattle.std.proofs.lemmas.List.Folds.{list_any-append}
use Rattle.std.proofs.lemmas.Option.{slice_get-map}
use Rattle.std.proofs.Math.Path.{fun_ext}
use Rattle.rp_span.specs.declared.Span.{Span}
use Rattle.rp_value.specs.Values.{Val}
use Rattle.rp_value.specs.declared.value.Value.{Value}
use Rattle.rp_value.specs.ValueView.{value_view}
use Rattle.rp_lang.specs.declared.program.Program.{Program}
use Rattle.rp_lang.specs.declared.event.Event.TheVariants as event
use Rattle.rp_lang.specs.declared.limit.LimitName.TheVariants as limit
use Rattle.rp_lang.specs.declared.proc.ProcDecl.{ProcDecl}
use Rattle.rp_lang.specs.Views.{proc_view}
use Rattle.rp_lang.specs.ProgramView.{program_view}
use Rattle.crdt_defs.specs.declared.call.CallRec.{CallRec}
use Rattle.crdt_defs.specs.Atoms.{ints_fit}
use Rattle.crdt_defs.specs.Calls.{Call, call_view, calls_view}
use Rattle.crdt_defs.specs.Histories.{meets}
use Rattle.crdt_defs.specs.Snapshots.{bit}
use Rattle.crdt_lib.proofs.HistoryLemmas.{seen_push, seen_length}
use Rattle.crdt_truth.specs.declared.reading.Info.{Info}
use Rattle.crdt_truth.specs.declared.reading.Outcome.TheVariants as out
use Rattle.code_points.proofs.PointLaws.{from_first}
use Rattle.event_machine.specs.Code as left
use Rattle.event_machine.specs.Code.{Code}
use Rattle.event_machine.specs.States as seen
use Rattle.event_machine.specs.Machine as spec
use Rattle.event_machine.specs.WellFormed.{opened_by}
use Rattle.machine_state.specs.declared.state.Run.{Run}
use Rattle.machine_state.specs.declared.state.State.{State}
use Rattle.machine_state.specs.declared.state.Standing as stood
use Rattle.machine_state.specs.declared.state.Standing.TheVariants as stand
use Rattle.machine_state.specs.Accessors.{has_ended, is_returned, is_running}
use Rattle.machine_state.specs.Fits.{Fits, IsKept}
use Rattle.machine_state.specs.StateView.{inv_view, invs_view, txs_view, standing_view, left_of, state_view}
use Rattle.machine_state.proofs.StateLemmas.{nothing, one_found, viewed_at, txs_length, invs_length}
use Rattle.machine_state.proofs.FitsLemmas.{proc_at}
use Rattle.machine_tests.proofs.SetLemmas.{push_up, listed_ascends}
use Rattle.machine_effects.specs.Limits.{limit_of}
use Rattle.machine_effects.specs.Steps.{Tells, Does}
use Rattle.machine_effects.specs.means.Lefts as lefts
use Rattle.machine_effects.proofs.CodeLemmas.{begun_none, ended_none, new_none}
use Rattle.machine_effects.proofs.ViewLemmas.{set_found, any_set, invs_set_run, invs_end, invs_calls, txs_end, txs_set, reading_is, all_in}
use Rattle.machine_effects.proofs.KeptLemmas.{RunFits, IntsFit, bit_within, bit_more, told_by, run_fits, kept_run, kept_more, kept_commit, kept_tx}

or_false : (b : Bool) → (b || false) ≡ b
or_false true = refl
or_false false = refl

-- it stands in the result where one invocation has returned
abbrev knows : Val → seen.Invocation → Bool
knows x inv = spec.stands_in x inv.standing

-- # One run is written

pub run_does : (p : Program) (s : State) (i : ℕ) (info : Info) (run new : Run) (label : seen.Label) → Fits p s
    → slice_get s.infos i ≡ Some info → slice_get s.runs i ≡ Some run → RunFits s.committed new
    → limit_of (program_view p) (state_view (program_view p) s) label ≡ None
    → ((x : Val) → spec.stands_in x (standing_view new.standing info.outcome) ≡ spec.stands_in x (standing_view run.standing info.outcome))
    → has_ended info.outcome ≡ is_returned new.standing
    → spec.effect (program_view p) (state_view (program_view p) s) label
    ≡ seen.Moved (spec.with_invocation (state_view (program_view p) s) i (inv_view (program_view p) (calls_view s.history) info new))
    → Does p s label (record s { runs = slice_set s.runs i new }) event.Moved
run_does p s i info run new label fits is_info is_run new_fits within same ends effect =
    let v = program_view p in
    let calls = calls_view s.history in
    let written : invs_view v calls s.infos (slice_set s.runs i new) ≡ slice_set (invs_view v calls s.infos s.runs) i (inv_view v calls info new) =
    invs_set_run v calls s.infos s.runs i info new is_info in
    record {
      within = within;
      tells = subst (λ answer. Tells v s answer (record s { runs = slice_set s.runs i new }) event.Moved) (sym effect) (refl, ap (λ invs. record (state_view v s) { invocations = invs }) written);
      kept = kept_run s i new fits.kept new_fits (told_by s.infos i info new is_info ends);
      places = refl;
      known = λ x. fits.known x
          ∙ sym (ap (list_any (knows x)) written
          ∙ any_set (knows x) (invs_view v calls s.infos s.runs) i (inv_view v calls info run) (inv_view v calls info new) (viewed_at v s i info run is_info is_run) (same x));
    }

running_is : (x : Val) (standing : stood.Standing) (outcome : _) → is_running standing ≡ true → spec.stands_in x (standing_view standing outcome) ≡ false
running_is x stand.Running outcome e = refl
running_is x stand.Returned outcome e = absurd (true≢false (sym e))
running_is x stand.Failed outcome e = absurd (true≢false (sym e))

running_not : (standing : stood.Standing) → is_running standing ≡ true → is_returned standing ≡ false
running_not stand.Running e = refl
running_not stand.Returned e = absurd (true≢false (sym e))
running_not stand.Failed e = refl

pub fail_does : (p : Program) (s : State) (i : ℕ) (info : Info) (run : Run) → Fits p s → slice_get s.infos i ≡ Some info → slice_get s.runs i ≡ Some run → is_running run.standing ≡ true
    → Does p s (seen.Fail i) (record s { runs = slice_set s.runs i (record run { standing = stand.Failed }) }) event.Moved
fail_does p s i info run fits is_info is_run runs =
    let v = state_view (program_view p) s in
    let old = run_fits s i run fits.kept is_run in
    run_does p s i info run (record run { standing = stand.Failed }) (seen.Fail i) fits is_info is_run
    (record { ascending = old.ascending; committed = old.committed; later = old.later; ints = old.ints })
    refl
    (λ x. sym (running_is x run.standing info.outcome runs))
    (fits.kept.told i info run is_info is_run ∙ running_not run.standing runs)
    (ap (λ o. option_map_or (λ inv. spec.stands v i inv seen.Failed) o (seen.Moved v)) (viewed_at (program_view p) s i info run is_info is_run))

-- # Commit

tx_within : (owners : List ℕ) (committed : List Bool) (tx : ℕ) (t : seen.Tx) → slice_get (txs_view owners committed) tx ≡ Some t → tx < length committed
tx_within [] committed tx t e = absurd (nothing t e)
tx_within (o ∷ owners) [] tx t e = absurd (nothing t e)
tx_within (o ∷ owners) (b ∷ committed) zero t e = omega arith
tx_within (o ∷ owners) (b ∷ committed) (suc tx) t e = let lt : tx < length committed = tx_within owners committed tx t e in omega arith

set_bit : (row : List Bool) (x : ℕ) → x < length row → bit (slice_set row x true) x ≡ true
set_bit row x lt = get_or-set_same row x true false lt

commit_by : (s : seen.State) (i tx : ℕ) (inv : seen.Invocation) (at : Span) (own : Option ℕ) (code next : Code) → own ≡ Some tx → code ≡ left.End at next → spec.commits s i inv own code ≡ seen.Moved (spec.committed s i inv tx next)
commit_by s i tx inv at own code next is_own is_code = ap (λ o. spec.commits s i inv o code) is_own ∙ ap (spec.commits s i inv (Some tx)) is_code

pub commit_does : (p : Program) (s : State) (i tx at : ℕ) (info : Info) (run : Run) (here : Span) (next : Code) → Fits p s → slice_get s.infos i ≡ Some info → slice_get s.runs i ≡ Some run → run.tx ≡ Some tx
    → left_of (slice_get (program_view p).procs info.proc) run.at ≡ left.End here next → left_of (slice_get (program_view p).procs info.proc) at ≡ next
    → Does p s (seen.Commit i) (record s { runs = slice_set s.runs i (record run { seen = run.seen ++ tx ∷ []; tx = None; at = at }); committed = slice_set s.committed tx true }) event.Moved
commit_does p s i tx at info run here next fits is_info is_run own code behind =
    let v = program_view p in
    let sv = state_view v s in
    let calls = calls_view s.history in
    let inv = inv_view v calls info run in
    let new : Run = record run { seen = run.seen ++ tx ∷ []; tx = None; at = at } in
    let old = run_fits s i run fits.kept is_run in
    let at_inv = viewed_at v s i info run is_info is_run in
    let opened : slice_get sv.txs tx ≡ Some (opened_by i) = fits.well_formed.linked.still_open i tx inv at_inv own in
    let within : tx < length s.committed = tx_within s.owners s.committed tx (opened_by i) opened in
    let marked = kept_commit s tx within fits.kept in
    let new_fits : RunFits (slice_set s.committed tx true) new = record {
      ascending = (push_up run.seen tx (record { ascending = old.ascending; below = λ k lt. old.later tx own k 0 lt })).ascending;
      committed = All-push (λ t. bit (slice_set s.committed tx true) t ≡ true) run.seen tx (marked.committed i run is_run) (set_bit s.committed tx within);
      later = λ t none. absurd (nothing t none);
      ints = old.ints;
    } in
    let written : invs_view v calls s.infos (slice_set s.runs i new) ≡ slice_set (invs_view v calls s.infos s.runs) i (inv_view v calls info new) = invs_set_run v calls s.infos s.runs i info new is_info in
    let view : spec.calls_of calls (run.seen ++ tx ∷ []) ≡ spec.reading_set calls inv = reading_is calls run.seen tx ∙ ap (λ o. λ c. spec.calls_of calls run.seen c || spec.own_calls calls o c) (sym own) in
    let seen_new : inv_view v calls info new ≡ record inv { view = spec.reading_set calls inv; tx = None; left = next } =
    ap (λ s. record inv { view = s; tx = None; left = left_of (slice_get v.procs info.proc) at }) view ∙ ap (λ c. record inv { view = spec.reading_set calls inv; tx = None; left = c }) behind in
    let txs : txs_view s.owners (slice_set s.committed tx true) ≡ slice_set sv.txs tx (record { inv = i; committed = true }) = txs_set s.owners s.committed tx true (opened_by i) opened in
    let effect : spec.effect v sv (seen.Commit i) ≡ seen.Moved (spec.committed sv i inv tx next) =
    ap (λ o. option_map_or (λ inv. spec.commits sv i inv inv.tx inv.left) o (seen.Moved sv)) at_inv ∙ commit_by sv i tx inv here run.tx inv.left next own code in
    let made : State = record s { runs = slice_set s.runs i new; committed = slice_set s.committed tx true } in
    record {
      within = refl;
      tells = subst (λ answer. Tells v s answer made event.Moved) (sym effect) (
        refl,
        ap (λ ts. record sv { txs = ts; invocations = invs_view v calls s.infos (slice_set s.runs i new) }) txs
            ∙ ap (λ invs. record sv { txs = slice_set sv.txs tx (record { inv = i; committed = true }); invocations = invs }) (written ∙ ap (slice_set sv.invocations i) seen_new),
      );
      kept = kept_run (record s { committed = slice_set s.committed tx true }) i new marked new_fits (told_by s.infos i info new is_info (fits.kept.told i info run is_info is_run));
      places = refl;
      known = λ x. fits.known x
          ∙ sym (ap (list_any (knows x)) written ∙ any_set (knows x) (invs_view v calls s.infos s.runs) i inv (inv_view v calls info new) at_inv refl);
    }

-- # Begin

begin_by : (s : seen.State) (i stamp : ℕ) (sees : List ℕ) (inv : seen.Invocation) (code next : Code) → code ≡ left.Begin next → spec.begins s i stamp sees inv code ≡ seen.Moved (spec.begun s i stamp sees inv next)
begin_by s i stamp sees inv code next is_code = ap (spec.begins s i stamp sees inv) is_code

pub calls_limit : (p : Program) (s : State) (i stamp : ℕ) (sees : List ℕ) → length s.history < 16384 → limit_of (program_view p) (state_view (program_view p) s) (seen.Begin i stamp sees) ≡ None
calls_limit p s i stamp sees room =
    let same : length (calls_view s.history) ≡ length s.history = seen_length s.history in
    ap (λ b. if b then Some limit.Calls else None) (lt-leb 16384 (length (calls_view s.history)) (omega arith))

-- a transaction past the end of the row is none of those that are committed
none_past : (committed : List Bool) (n : ℕ) (xs : List ℕ) → length committed ≤ n → All (λ tx. bit committed tx ≡ true) xs → spec.is_in xs n ≡ false
none_past committed n xs le all = false_from_ne_true (spec.is_in xs n) (λ here. true≢false (sym (all_in (λ tx. bit committed tx ≡ true) xs n all here) ∙ get_or_past committed n false le))

-- the marker of a transaction
abbrev pub marker : (i tx stamp : ℕ) → List Call → List ℕ → Call
marker i tx stamp calls sees = record { op = 0; args = []; inv = i; tx = tx; stamp = stamp; past = spec.listed (spec.calls_of calls sees) (length calls) }

pub begin_does : (p : Program) (s : State) (i stamp at : ℕ) (sees : List ℕ) (info : Info) (run : Run) (call : CallRec) (next : Code) → Fits p s
    → slice_get s.infos i ≡ Some info → slice_get s.runs i ≡ Some run → length s.history < 16384
    → IsStrictlyIncreasing sees → All (λ tx. bit s.committed tx ≡ true) sees
    → left_of (slice_get (program_view p).procs info.proc) run.at ≡ left.Begin next → left_of (slice_get (program_view p).procs info.proc) at ≡ next
    → call_view call ≡ marker i (length s.owners) stamp (calls_view s.history) sees
    → Does p s (seen.Begin i stamp sees) (record s {
      owners = s.owners ++ i ∷ [];
      committed = s.committed ++ false ∷ [];
      history = s.history ++ call ∷ [];
      runs = slice_set s.runs i (record run { seen = sees; tx = Some (length s.owners); at = at });
    }) event.Moved
begin_does p s i stamp at sees info run call next fits is_info is_run room ascends all code behind is_call =
    let v = program_view p in
    let sv = state_view v s in
    let calls = calls_view s.history in
    let inv = inv_view v calls info run in
    let own : ℕ = length s.owners in
    let new : Run = record run { seen = sees; tx = Some own; at = at } in
    let old = run_fits s i run fits.kept is_run in
    let at_inv = viewed_at v s i info run is_info is_run in
    let same : length s.owners ≡ length s.committed = fits.kept.txs in
    let many : length sv.txs ≡ own = txs_length s.owners s.committed same in
    let grown : calls_view (s.history ++ call ∷ []) ≡ calls ++ call_view call ∷ [] = seen_push s.history call in
    let of_tx : (call_view call).tx ≡ own = ap (λ (c : Call). c.tx) is_call in
    let unseen : (k : ℕ) (r : Run) → slice_get (slice_set s.runs i new) k ≡ Some r → spec.is_in r.seen (call_view call).tx ≡ false = λ k r e.
    ap (spec.is_in r.seen) of_tx
    ∙ elim (set_found s.runs i new k r e) [
      | inl h ↦ ap (λ (r : Run). spec.is_in r.seen own) (sym h.1) ∙ none_past s.committed own sees (omega arith) all
      | inr h ↦ none_past s.committed own r.seen (omega arith) (fits.kept.committed k r h)
    ] in
    let target : ℕ → seen.Invocation = λ n. record inv { view = spec.calls_of calls sees; tx = Some n; left = next } in
    let invs : invs_view v (calls_view (s.history ++ call ∷ [])) s.infos (slice_set s.runs i new) ≡ slice_set sv.invocations i (target own) =
    ap (λ cs. invs_view v cs s.infos (slice_set s.runs i new)) grown
    ∙ invs_calls v calls (call_view call) s.infos (slice_set s.runs i new) unseen
    ∙ invs_set_run v calls s.infos s.runs i info new is_info
    ∙ ap (λ c. slice_set sv.invocations i (record inv { view = spec.calls_of calls sees; tx = Some own; left = c })) behind in
    let txs : txs_view (s.owners ++ i ∷ []) (s.committed ++ false ∷ []) ≡ sv.txs ++ record { inv = i; committed = false } ∷ [] = txs_end s.owners s.committed i false same in
    let mid : List Call → List seen.Tx → List seen.Invocation → seen.State = λ cs ts is. record sv { calls = cs; txs = ts; invocations = is } in
    let made : State = record s { owners = s.owners ++ i ∷ []; committed = s.committed ++ false ∷ []; history = s.history ++ call ∷ []; runs = slice_set s.runs i new } in
    let all_txs : List seen.Tx = sv.txs ++ record { inv = i; committed = false } ∷ [] in
    let view : state_view v made ≡ spec.begun sv i stamp sees inv next =
    ap (λ cs. mid cs (txs_view (s.owners ++ i ∷ []) (s.committed ++ false ∷ [])) (invs_view v (calls_view (s.history ++ call ∷ [])) s.infos (slice_set s.runs i new))) (grown ∙ ap (λ c. calls ++ c ∷ []) is_call)
    ∙ ap (λ ts. mid (calls ++ marker i own stamp calls sees ∷ []) ts (invs_view v (calls_view (s.history ++ call ∷ [])) s.infos (slice_set s.runs i new))) txs
    ∙ ap (λ is. mid (calls ++ marker i own stamp calls sees ∷ []) all_txs is) invs
    ∙ ap (λ n. mid (calls ++ marker i n stamp calls sees ∷ []) all_txs (slice_set sv.invocations i (target n))) (sym many) in
    let effect : spec.effect v sv (seen.Begin i stamp sees) ≡ seen.Moved (spec.begun sv i stamp sees inv next) =
    ap (λ o. option_map_or (λ inv. spec.begins sv i stamp sees inv inv.left) o (seen.Moved sv)) at_inv ∙ begin_by sv i stamp sees inv inv.left next code in
    record {
      within = calls_limit p s i stamp sees room;
      tells = subst (λ answer. Tells v s answer made event.Moved) (sym effect) (refl, view);
      kept = kept_run (record s { owners = s.owners ++ i ∷ []; committed = s.committed ++ false ∷ []; history = s.history ++ call ∷ [] }) i new (kept_tx s i call fits.kept)
          (record {
            ascending = ascends;
            committed = λ k d lt. bit_more s.committed false (get_or sees k d) (all k d lt);
            later = λ t is. λ k d lt.
                let here : get_or sees k d < length s.committed = bit_within s.committed (get_or sees k d) (all k d lt) in
                let last : own ≡ t = one_found (Some own) own t refl is in
                omega arith;
            ints = old.ints;
          }) (told_by s.infos i info new is_info (fits.kept.told i info run is_info is_run));
      places = refl;
      known = λ x. fits.known x
          ∙ sym (ap (list_any (knows x)) invs ∙ any_set (knows x) sv.invocations i inv (target own) at_inv refl);
    }

-- # New

new_by : (s : seen.State) (i slot of : ℕ) (id : Val) (inv : seen.Invocation) (code next : Code) → code ≡ left.New slot of next
    → spec.made s i id inv code ≡ seen.Moved (record (spec.with_invocation s i (record (spec.with_slot inv slot id) { left = next })) { generated = s.generated ++ id ∷ [] })
new_by s i slot of id inv code next is_code = ap (spec.made s i id inv) is_code

-- a slot in which a value is written
slots_set : (slots : List (Option Value)) (n : ℕ) (v : Value) → map (option_map value_view) (slice_set slots n (Some v)) ≡ slice_set (map (option_map value_view) slots) n (Some (value_view v))
slots_set slots n v = map-set (option_map value_view) slots n (Some v)

pub ints_set : (slots : List (Option Value)) (n : ℕ) (v : Value) → ints_fit (value_view v) ≡ true → IntsFit slots → IntsFit (slice_set slots n (Some v))
ints_set slots n v fit old k w at_k =
    elim (set_found slots n (Some v) k (Some w) at_k) [
      | inl h ↦ subst (λ w. ints_fit (value_view w) ≡ true) (one_found (Some v) v w refl h.1) fit
      | inr h ↦ old k w h
    ]

-- the run with a value in a slot, and at a later point
abbrev pub put_on : Run → ℕ → Value → ℕ → Run
put_on run slot v at = record run { slots = slice_set run.slots slot (Some v); at = at }

pub put_seen : (p : Program) (calls : List Call) (info : Info) (run : Run) (slot at : ℕ) (v : Value) (next : Code) → left_of (slice_get (program_view p).procs info.proc) at ≡ next
    → inv_view (program_view p) calls info (put_on run slot v at) ≡ record (spec.with_slot (inv_view (program_view p) calls info run) slot (value_view v)) { left = next }
put_seen p calls info run slot at v next behind =
    let inv = inv_view (program_view p) calls info run in
    ap (λ slots. record inv { slots = slots; left = left_of (slice_get (program_view p).procs info.proc) at }) (slots_set run.slots slot v)
    ∙ ap (λ c. record inv { slots = slice_set inv.slots slot (Some (value_view v)); left = c }) behind

pub put_fits : (s : State) (i slot at : ℕ) (run : Run) (v : Value) → IsKept s → slice_get s.runs i ≡ Some run → ints_fit (value_view v) ≡ true → RunFits s.committed (put_on run slot v at)
put_fits s i slot at run v kept is_run fit =
    let old = run_fits s i run kept is_run in
    record { ascending = old.ascending; committed = old.committed; later = old.later; ints = ints_set run.slots slot v fit old.ints }

pub make_does : (p : Program) (s : State) (i slot of at : ℕ) (info : Info) (run : Run) (id : Value) (next : Code) → Fits p s → slice_get s.infos i ≡ Some info → slice_get s.runs i ≡ Some run
    → ints_fit (value_view id) ≡ true
    → left_of (slice_get (program_view p).procs info.proc) run.at ≡ left.New slot of next → left_of (slice_get (program_view p).procs info.proc) at ≡ next
    → Does p s (seen.New i (value_view id)) (record s { runs = slice_set s.runs i (put_on run slot id at); generated = s.generated ++ id ∷ [] }) event.Moved
make_does p s i slot of at info run id next fits is_info is_run fit code behind =
    let v = program_view p in
    let sv = state_view v s in
    let calls = calls_view s.history in
    let inv = inv_view v calls info run in
    let new : Run = put_on run slot id at in
    let at_inv = viewed_at v s i info run is_info is_run in
    let written : invs_view v calls s.infos (slice_set s.runs i new) ≡ slice_set sv.invocations i (record (spec.with_slot inv slot (value_view id)) { left = next }) =
    invs_set_run v calls s.infos s.runs i info new is_info ∙ ap (slice_set sv.invocations i) (put_seen p calls info run slot at id next behind) in
    let made : State = record s { runs = slice_set s.runs i new; generated = s.generated ++ id ∷ [] } in
    let ids : map value_view (s.generated ++ id ∷ []) ≡ sv.generated ++ value_view id ∷ [] = map-append value_view s.generated (id ∷ []) in
    let effect : spec.effect v sv (seen.New i (value_view id)) ≡ seen.Moved (record (spec.with_invocation sv i (record (spec.with_slot inv slot (value_view id)) { left = next })) { generated = sv.generated ++ value_view id ∷ [] }) =
    ap (λ o. option_map_or (λ inv. spec.made sv i (value_view id) inv inv.left) o (seen.Moved sv)) at_inv ∙ new_by sv i slot of (value_view id) inv inv.left next code in
    let kept = kept_run s i new fits.kept (put_fits s i slot at run id fits.kept is_run fit) (told_by s.infos i info new is_info (fits.kept.told i info run is_info is_run)) in
    record {
      within = refl;
      tells = subst (λ answer. Tells v s answer made event.Moved) (sym effect) (
        refl,
        ap (λ is. record sv { invocations = is; generated = map value_view (s.generated ++ id ∷ []) }) written
            ∙ ap (λ g. record sv { invocations = slice_set sv.invocations i (record (spec.with_slot inv slot (value_view id)) { left = next }); generated = g }) ids,
      );
      kept = record { few = kept.few; runs = kept.runs; txs = kept.txs; calls = kept.calls; ascending = kept.ascending; committed = kept.committed; later = kept.later; ints = kept.ints; told = kept.told };
      places = refl;
      known = λ x. fits.known x
          ∙ sym (ap (list_any (knows x)) written ∙ any_set (knows x) sv.invocations i inv (record (spec.with_slot inv slot (value_view id)) { left = next }) at_inv refl);
    }

-- # Nothing is done

pub nothing_done : (p : Program) (s : State) (label : seen.Label) → Fits p s → limit_of (program_view p) (state_view (program_view p) s) label ≡ None
    → spec.effect (program_view p) (state_view (program_view p) s) label ≡ seen.Moved (state_view (program_view p) s) → Does p s label s event.Moved
nothing_done p s label fits within effect = record {
  within = within;
  tells = subst (λ answer. Tells (program_view p) s answer s event.Moved) (sym effect) (refl, refl);
  kept = fits.kept;
  places = refl;
  known = fits.known;
}

-- nothing is done where something else is next
pub commit_nothing : (p : Program) (s : State) (i : ℕ) (inv : seen.Invocation) → Fits p s → slice_get (state_view (program_view p) s).invocations i ≡ Some inv
    → lefts.ended inv.left ≡ None → Does p s (seen.Commit i) s event.Moved
commit_nothing p s i inv fits at_inv none =
    let sv = state_view (program_view p) s in
    nothing_done p s (seen.Commit i) fits refl
    (ap (λ o. option_map_or (λ (inv : seen.Invocation). spec.commits sv i inv inv.tx inv.left) o (seen.Moved sv)) at_inv ∙ ended_none sv i inv inv.tx inv.left none)

-- or where no transaction is open
pub commit_alone : (p : Program) (s : State) (i : ℕ) (inv : seen.Invocation) → Fits p s → slice_get (state_view (program_view p) s).invocations i ≡ Some inv
    → inv.tx ≡ None → Does p s (seen.Commit i) s event.Moved
commit_alone p s i inv fits at_inv none =
    let sv = state_view (program_view p) s in
    nothing_done p s (seen.Commit i) fits refl
    (ap (λ o. option_map_or (λ (inv : seen.Invocation). spec.commits sv i inv inv.tx inv.left) o (seen.Moved sv)) at_inv ∙ ap (λ o. spec.commits sv i inv o inv.left) none)

pub begin_nothing : (p : Program) (s : State) (i stamp : ℕ) (sees : List ℕ) (inv : seen.Invocation) → Fits p s → length s.history < 16384 → slice_get (state_view (program_view p) s).invocations i ≡ Some inv
    → lefts.begun inv.left ≡ None → Does p s (seen.Begin i stamp sees) s event.Moved
begin_nothing p s i stamp sees inv fits room at_inv none =
    let sv = state_view (program_view p) s in
    nothing_done p s (seen.Begin i stamp sees) fits (calls_limit p s i stamp sees room)
    (ap (λ o. option_map_or (λ (inv : seen.Invocation). spec.begins sv i stamp sees inv inv.left) o (seen.Moved sv)) at_inv ∙ begun_none sv i stamp sees inv inv.left none)

pub make_nothing : (p : Program) (s : State) (i : ℕ) (id : Val) (inv : seen.Invocation) → Fits p s → slice_get (state_view (program_view p) s).invocations i ≡ Some inv
    → lefts.new inv.left ≡ None → Does p s (seen.New i id) s event.Moved
make_nothing p s i id inv fits at_inv none =
    let sv = state_view (program_view p) s in
    nothing_done p s (seen.New i id) fits refl
    (ap (λ o. option_map_or (λ (inv : seen.Invocation). spec.made sv i id inv inv.left) o (seen.Moved sv)) at_inv ∙ new_none sv i id inv inv.left none)

-- an open transaction is one of the state
pub tx_lt : (p : Program) (s : State) (i tx : ℕ) (info : Info) (run : Run) → Fits p s → slice_get s.infos i ≡ Some info → slice_get s.runs i ≡ Some run → run.tx ≡ Some tx → tx < length s.committed
tx_lt p s i tx info run fits is_info is_run own =
    tx_within s.owners s.committed tx (opened_by i)
    (fits.well_formed.linked.still_open i tx (inv_view (program_view p) (calls_view s.history) info run) (viewed_at (program_view p) s i info run is_info is_run) own)

-- the calls of transactions, where none is open
pub reads_seen : (calls : List Call) (sees : List ℕ) → ◌≡◌ {A = ℕ → Bool} (λ c. spec.calls_of calls sees c || spec.own_calls calls None c) (spec.calls_of calls sees)
reads_seen calls sees = fun_ext (λ c. or_false (spec.calls_of calls sees c))

pub set_here : {A : Type 0} (xs : List A) (i : ℕ) (x : A) → i < length xs → slice_get (slice_set xs i x) i ≡ Some x
set_here [] i x lt = absurd (omega arith)
set_here (y ∷ ys) zero x lt = refl
set_here (y ∷ ys) (suc i) x lt = set_here ys i x (omega arith)

-- # Invoke

invoke_limit : (p : Program) (s : State) (proc : ℕ) (args : List Val) → length s.infos ≡ length s.runs → length s.infos < 16384 → list_all ints_fit args ≡ true
    → limit_of (program_view p) (state_view (program_view p) s) (seen.Invoke proc args) ≡ None
invoke_limit p s proc args same room fit =
    let sv = state_view (program_view p) s in
    let many : length sv.invocations ≡ length s.runs = invs_length (program_view p) (calls_view s.history) s.infos s.runs same in
    ap (λ b. if b then Some limit.Invocations else if not (list_all ints_fit args) then Some limit.Integer else None) (lt-leb 16384 (length sv.invocations) (omega arith))
    ∙ ap (λ b. if not b then Some limit.Integer else None) fit

pub invocations_limit : (p : Program) (s : State) (proc : ℕ) (args : List Val) → length s.infos ≡ length s.runs → 16384 ≤ length s.infos
    → limit_of (program_view p) (state_view (program_view p) s) (seen.Invoke proc args) ≡ Some limit.Invocations
invocations_limit p s proc args same full =
    let sv = state_view (program_view p) s in
    let many : length sv.invocations ≡ length s.runs = invs_length (program_view p) (calls_view s.history) s.infos s.runs same in
    ap (λ b. if b then Some limit.Invocations else if not (list_all ints_fit args) then Some limit.Integer else None) (le-leb 16384 (length sv.invocations) (omega arith))

pub integer_limit : (p : Program) (s : State) (proc : ℕ) (args : List Val) → length s.infos ≡ length s.runs → length s.infos < 16384 → list_all ints_fit args ≡ false
    → limit_of (program_view p) (state_view (program_view p) s) (seen.Invoke proc args) ≡ Some limit.Integer
integer_limit p s proc args same room wide =
    let sv = state_view (program_view p) s in
    let many : length sv.invocations ≡ length s.runs = invs_length (program_view p) (calls_view s.history) s.infos s.runs same in
    ap (λ b. if b then Some limit.Invocations else if not (list_all ints_fit args) then Some limit.Integer else None) (lt-leb 16384 (length sv.invocations) (omega arith))
    ∙ ap (λ b. if not b then Some limit.Integer else None) wide

no_value : (k n : ℕ) (w : Val) → slice_get (replicate k None) n ≡ Some (Some w) → ⊥
no_value zero n w e = nothing (Some w) e
no_value (suc k) zero w e = nothing w (one_found (Some None) None (Some w) refl e)
no_value (suc k) (suc n) w e = no_value k n w e

first_ints : (vals : List Val) (k n : ℕ) (w : Val) → slice_get (map (λ v. Some v) vals ++ replicate k None) n ≡ Some (Some w) → list_all ints_fit vals ≡ true → ints_fit w ≡ true
first_ints [] k n w e fit = absurd (no_value k n w e)
first_ints (v ∷ vals) k zero w e fit = ap ints_fit (sym (one_found (Some v) v w refl (one_found (Some (Some v)) (Some v) (Some w) refl e))) ∙ (and_parts (ints_fit v) (list_all ints_fit vals) fit).0
first_ints (v ∷ vals) k (suc n) w e fit = first_ints vals k n w e (and_parts (ints_fit v) (list_all ints_fit vals) fit).1

abbrev pub first_run : ProcDecl → List Value → Run
first_run q args = record { at = 0; slots = map (λ v. Some v) args ++ replicate (length q.slots - length args) None; seen = []; tx = None; standing = stand.Running }

abbrev pub first_info : ℕ → List Value → Info
first_info proc args = record { proc = proc; args = args; outcome = out.Unreturned }

some_views : (args : List Value) (k : ℕ) → map (option_map value_view) (map (λ v. Some v) args ++ replicate k None) ≡ map (λ v. Some v) (map value_view args) ++ replicate k None
some_views [] zero = refl
some_views [] (suc k) = ap (λ rest. None ∷ rest) (some_views [] k)
some_views (v ∷ args) k = ap (λ rest. Some (value_view v) ∷ rest) (some_views args k)

slots_seen : (q : ProcDecl) (args : List Value) → map (option_map value_view) (first_run q args).slots ≡ spec.first_slots (proc_view q) (map value_view args)
slots_seen q args =
    some_views args (length q.slots - length args)
    ∙ ap (λ n. map (λ v. Some v) (map value_view args) ++ replicate (length q.slots - n) None) (sym (length-map args value_view))

first_fits : (committed : List Bool) (q : ProcDecl) (args : List Value) → list_all ints_fit (map value_view args) ≡ true → RunFits committed (first_run q args)
first_fits committed q args fit = record {
  ascending = λ k lt. absurd (omega arith);
  committed = λ k d lt. absurd (omega arith);
  later = λ t e. absurd (nothing t e);
  ints = λ n v e. first_ints (map value_view args) (length q.slots - length args) n (value_view v)
      (ap (λ xs. slice_get xs n) (sym (some_views args (length q.slots - length args))) ∙ slice_get-map (option_map value_view) (first_run q args).slots n ∙ ap (λ o. option_map (option_map value_view) o) e)
      fit;
}

no_call : (o : Option Call) → meets (λ call. spec.is_in [] call.tx) o ≡ false
no_call None = refl
no_call (Some call) = refl

pub invoke_does : (p : Program) (s : State) (proc : ℕ) (args : List Value) (q : ProcDecl) → Fits p s → slice_get p.procs proc ≡ Some q → length s.infos < 16384
    → list_all ints_fit (map value_view args) ≡ true
    → Does p s (seen.Invoke proc (map value_view args)) (record s { infos = s.infos ++ first_info proc args ∷ []; runs = s.runs ++ first_run q args ∷ [] }) event.Moved
invoke_does p s proc args q fits is_proc room fit =
    let v = program_view p in
    let sv = state_view v s in
    let calls = calls_view s.history in
    let same : length s.infos ≡ length s.runs = fits.kept.runs in
    let at_proc : slice_get v.procs proc ≡ Some (proc_view q) = proc_at p proc q is_proc in
    let vals : List Val = map value_view args in
    let new : seen.Invocation = spec.started (proc_view q) proc vals in
    let viewed : inv_view v calls (first_info proc args) (first_run q args) ≡ new =
    ap (λ slots. record new { slots = slots; left = left_of (slice_get v.procs proc) 0; view = spec.calls_of calls [] }) (slots_seen q args)
    ∙ ap (λ o. record new { left = left_of o 0; view = spec.calls_of calls [] }) at_proc
    ∙ ap (λ c. record new { left = c; view = spec.calls_of calls [] }) (from_first (proc_view q).body (left.Return q.end None))
    ∙ ap (λ see. record new { view = see }) (fun_ext (λ c. no_call (slice_get calls c))) in
    let invs : invs_view v calls (s.infos ++ first_info proc args ∷ []) (s.runs ++ first_run q args ∷ []) ≡ sv.invocations ++ new ∷ [] =
    invs_end v calls s.infos s.runs (first_info proc args) (first_run q args) same ∙ ap (λ inv. sv.invocations ++ inv ∷ []) viewed in
    let made : State = record s { infos = s.infos ++ first_info proc args ∷ []; runs = s.runs ++ first_run q args ∷ [] } in
    let effect : spec.effect v sv (seen.Invoke proc vals) ≡ seen.Moved (record sv { invocations = sv.invocations ++ new ∷ [] }) =
    ap (λ o. option_map_or (λ q. seen.Moved (record sv { invocations = sv.invocations ++ spec.started q proc vals ∷ [] })) o (seen.Moved sv)) at_proc in
    record {
      within = invoke_limit p s proc vals same room fit;
      tells = subst (λ answer. Tells v s answer made event.Moved) (sym effect) (refl, ap (λ is. record sv { invocations = is }) invs);
      kept = kept_more s (first_info proc args) (first_run q args) (omega arith) fits.kept (first_fits s.committed q args fit) refl;
      places = refl;
      known = λ x. fits.known x
          ∙ sym (ap (list_any (knows x)) invs ∙ list_any-append (knows x) sv.invocations (new ∷ []) ∙ or_false (list_any (knows x) sv.invocations));
    }

-- # Pasts

step_low : (b : Bool) (xs : List ℕ) (n : ℕ) → IsStrictlyIncreasing xs → ((k : ℕ) → k < length xs → get_or xs k 0 < n) → (k : ℕ) → k < length (xs ++ (if b then n ∷ [] else [])) → get_or (xs ++ (if b then n ∷ [] else [])) k 0 < suc n
step_low true xs n up low = (push_up xs n (record { ascending = up; below = low })).below
step_low false xs n up low =
    subst (λ (ys : List ℕ). (k : ℕ) → k < length ys → get_or ys k 0 < suc n) (sym (append-nil xs)) (λ k lt. let less : get_or xs k 0 < n = low k lt in omega arith)

low_listed : (set : ℕ → Bool) (n k : ℕ) → k < length (spec.listed set n) → get_or (spec.listed set n) k 0 < n
low_listed set zero k lt = absurd (omega arith)
low_listed set (suc n) k lt = step_low (set n) (spec.listed set n) n (listed_ascends set n) (low_listed set n) k lt

-- the members of a set below the end are calls of the history
pub past_low : (xs : List ℕ) (set : ℕ → Bool) (n m : ℕ) → xs ≡ spec.listed set n → n ≡ m → All (λ b. b < m) xs
past_low xs set n m is same = λ k d lt.
    let len : length xs ≡ length (spec.listed set n) = ap length is in
    let low : get_or (spec.listed set n) k 0 < n = low_listed set n k (omega arith) in
    let here : get_or xs k d ≡ get_or (spec.listed set n) k d = ap (λ (ys : List ℕ). get_or ys k d) is in
    let one : get_or (spec.listed set n) k d ≡ get_or (spec.listed set n) k 0 = get_or_default (spec.listed set n) k d 0 (omega arith) in
    omega arith

-- # Slots

pub slots_more : (xs ys : List (Option Value)) (n : ℕ) → xs ≡ ys ++ replicate n None → xs ++ None ∷ [] ≡ ys ++ replicate (n + 1) None
slots_more xs ys n e = ap (λ (zs : List (Option Value)). zs ++ None ∷ []) e ∙ append_assoc ys (replicate n None) (None ∷ []) ∙ ap (λ (zs : List (Option Value)). ys ++ zs) (replicate_more n None)
