-- What the code lends to invariants is what the definitions' state has for them.
use Rattle.std.proofs.Common.{◌≡◌, ℕ, zero, suc, ◌+◌, ◌<◌, ◌≤◌, Bool, true, false, refl, sym, ◌∙◌, ap, subst, arith, add-one, List, [], ◌∷◌, length, map, drop, Option, Some, None, slice_get}
use Rattle.std.specs.Prelude.{if◌then◌else◌, option_map, ◌||◌, Result, Ok, Err, IfOk}
use Rattle.std.proofs.lemmas.Bool.{true≢false, false_from_ne_true, lt-ltb, le-ltb}
use Rattle.std.proofs.lemmas.List.{drop_all}
use Rattle.std.proofs.lemmas.Option.{slice_get_past, slice_get-map}
use Rattle.rp_value.specs.Values.{Val}
use Rattle.rp_lang.specs.Formulas.{Fo}
use Rattle.rp_lang.specs.Programs.{Inv, Prog}
use Rattle.rp_lang.specs.declared.inv.InvDecl.{InvDecl}
use Rattle.rp_lang.specs.declared.program.Program.{Program}
use Rattle.rp_lang.specs.declared.event.Event.{Event}
use Rattle.rp_lang.specs.declared.event.Event.TheVariants as event
use Rattle.rp_lang.specs.declared.event.What.TheVariants as told_what
use Rattle.rp_lang.specs.declared.limit.LimitName.TheVariants as limit
use Rattle.rp_lang.specs.ProgramView.{program_view}
use Rattle.rp_lang.specs.Views.{formula_view, inv_view}
use Rattle.crdt_defs.specs.Calls.{Call, calls_view}
use Rattle.crdt_defs.specs.Histories.{IsHistory, meets}
use Rattle.crdt_defs.specs.Parts as parts
use Rattle.crdt_defs.specs.Truths.{Reading, truth}
use Rattle.crdt_truth.specs.Readings.{info_view, outcome_view, seen_in}
use Rattle.crdt_truth.specs.Within.{FoWithin}
use Rattle.crdt_truth.specs.declared.reading.Info.{Info}
use Rattle.crdt_truth.specs.declared.reading.Outcome.{Outcome}
use Rattle.crdt_truth.specs.declared.reading.Outcome.TheVariants as out
use Rattle.event_machine.specs.States as seen
use Rattle.event_machine.specs.Machine as spec
use Rattle.machine_bounds.proofs.CodeBounds.{invariant-within}
use Rattle.machine_checks.specs.Checking.{answer_of}
use Rattle.machine_effects.specs.Limits.{limit_of, of_all}
use Rattle.machine_effects.specs.Steps.{Tells, Does}
use Rattle.machine_effects.proofs.EffectLemmas.{reads_seen}
use Rattle.machine_next.proofs.NextLemmas.{viewed_as}
use Rattle.machine_reads.proofs.ReadingLemmas.{seen_listed}
use Rattle.machine_state.specs.declared.state.Run.{Run}
use Rattle.machine_state.specs.declared.state.State.{State}
use Rattle.machine_state.specs.declared.state.Standing as stood
use Rattle.machine_state.specs.declared.state.Standing.TheVariants as stand
use Rattle.machine_state.specs.Accessors.{has_ended, is_returned}
use Rattle.machine_state.specs.Fits.{Fits}
use Rattle.machine_state.proofs.StateLemmas.{nothing, one_found, invs_length}
use Rattle.machine_state.specs.StateView as views
use Rattle.machine_state.specs.StateView.{invs_view, txs_view, standing_view, state_view}

-- # Invocations and transactions

-- the outcome is what the standing says that was returned
outcome_is : (standing : stood.Standing) (outcome : Outcome) → has_ended outcome ≡ is_returned standing → outcome_view outcome ≡ spec.result_of (standing_view standing outcome)
outcome_is stand.Running out.Unreturned is = refl
outcome_is stand.Running out.Returned is = absurd (true≢false is)
outcome_is stand.Running (out.ReturnedWith v) is = absurd (true≢false is)
outcome_is stand.Returned out.Unreturned is = absurd (true≢false (sym is))
outcome_is stand.Returned out.Returned is = refl
outcome_is stand.Returned (out.ReturnedWith v) is = refl
outcome_is stand.Failed out.Unreturned is = refl
outcome_is stand.Failed out.Returned is = absurd (true≢false is)
outcome_is stand.Failed (out.ReturnedWith v) is = absurd (true≢false is)

info_is : (p : Prog) (calls : List Call) (info : Info) (run : Run) → has_ended info.outcome ≡ is_returned run.standing → info_view info ≡ spec.info (views.inv_view p calls info run)
info_is p calls info run told = ap (λ r. record (info_view info) { result = r }) (outcome_is run.standing info.outcome told)

infos_are : (p : Prog) (calls : List Call) (infos : List Info) (runs : List Run) → length infos ≡ length runs
    → ((i : ℕ) (info : Info) (run : Run) → slice_get infos i ≡ Some info → slice_get runs i ≡ Some run → has_ended info.outcome ≡ is_returned run.standing)
    → map info_view infos ≡ map spec.info (invs_view p calls infos runs)
infos_are p calls [] [] same told = refl
infos_are p calls [] (run ∷ runs) same told = absurd (omega arith)
infos_are p calls (info ∷ infos) [] same told = absurd (omega arith)
infos_are p calls (info ∷ infos) (run ∷ runs) same told =
    ap (λ i. i ∷ map info_view infos) (info_is p calls info run (told 0 info run refl refl))
    ∙ ap (λ rest. spec.info (views.inv_view p calls info run) ∷ rest) (infos_are p calls infos runs (omega arith) (λ i x r a b. told (suc i) x r a b))

-- of one invocation
pub info_tells : (p : Program) (s : State) (i : ℕ) (inv : seen.Invocation) → Fits p s → slice_get (state_view (program_view p) s).invocations i ≡ Some inv
    → option_map info_view (slice_get s.infos i) ≡ Some (spec.info inv)
info_tells p s i inv fits at =
    let v = program_view p in
    let calls = calls_view s.history in
    let it = viewed_as p s i inv fits at in
    ap (option_map info_view) it.is_info
    ∙ ap (λ x. Some x) (info_is v calls it.info it.run (fits.kept.told i it.info it.run it.is_info it.is_run))
    ∙ ap (λ (inv : seen.Invocation). Some (spec.info inv)) (one_found (slice_get (state_view v s).invocations i) (views.inv_view v calls it.info it.run) inv it.is at)

pub view_tells : (p : Program) (s : State) (i : ℕ) (inv : seen.Invocation) → Fits p s → slice_get (state_view (program_view p) s).invocations i ≡ Some inv
    → option_map (λ (run : Run). spec.calls_of (calls_view s.history) run.seen) (slice_get s.runs i) ≡ Some inv.view
view_tells p s i inv fits at =
    let v = program_view p in
    let calls = calls_view s.history in
    let it = viewed_as p s i inv fits at in
    ap (option_map (λ (run : Run). spec.calls_of calls run.seen)) it.is_run
    ∙ ap (λ (inv : seen.Invocation). Some inv.view) (one_found (slice_get (state_view v s).invocations i) (views.inv_view v calls it.info it.run) inv it.is at)

pub count_tells : (p : Program) (s : State) → Fits p s → length s.infos ≡ length (state_view (program_view p) s).invocations
count_tells p s fits = fits.kept.runs ∙ sym (invs_length (program_view p) (calls_view s.history) s.infos s.runs fits.kept.runs)

committed_are : (owners : List ℕ) (committed : List Bool) → length owners ≡ length committed → committed ≡ map (λ (tx : seen.Tx). tx.committed) (txs_view owners committed)
committed_are [] [] same = refl
committed_are [] (b ∷ committed) same = absurd (omega arith)
committed_are (o ∷ owners) [] same = absurd (omega arith)
committed_are (o ∷ owners) (b ∷ committed) same = ap (λ rest. b ∷ rest) (committed_are owners committed (omega arith))

pub committed_tells : (p : Program) (s : State) → Fits p s → s.committed ≡ map (λ (tx : seen.Tx). tx.committed) (state_view (program_view p) s).txs
committed_tells p s fits = committed_are s.owners s.committed fits.kept.txs

-- what is lent to invariants
abbrev pub lent : State → List Bool → List parts.Info → parts.Parts
lent s committed infos = record { universe = s.universe; calls = calls_view s.history; committed = committed; infos = infos }

pub lent_is : (p : Program) (s : State) (committed : List Bool) (infos : List Info) → Fits p s → committed ≡ s.committed → infos ≡ s.infos
    → lent s committed (map info_view infos) ≡ spec.plain (state_view (program_view p) s)
lent_is p s committed infos fits is_committed is_infos =
    ap (λ bits. lent s bits (map info_view infos)) (is_committed ∙ committed_are s.owners s.committed fits.kept.txs)
    ∙ ap (λ is. lent s (map (λ (tx : seen.Tx). tx.committed) (txs_view s.owners s.committed)) is)
    (ap (map info_view) is_infos ∙ infos_are (program_view p) (calls_view s.history) s.infos s.runs fits.kept.runs fits.kept.told)

-- # Visible calls

pub seen_calls : (calls : List Call) (sees xs : List ℕ) → xs ≡ spec.listed (λ c. spec.calls_of calls sees c || spec.own_calls calls None c) (length calls) → seen_in xs ≡ spec.calls_of calls sees
seen_calls calls sees xs is =
    ap seen_in (is ∙ ap (λ (set : ℕ → Bool). spec.listed set (length calls)) (reads_seen calls sees))
    ∙ seen_listed (spec.calls_of calls sees) (length calls) (λ c le. ap (meets (λ (call : Call). spec.is_in sees call.tx)) (slice_get_past calls c le))

-- the numbers of a set, where all of it is below n
pub seen_members : (S : ℕ → Bool) (n : ℕ) (xs : List ℕ) → xs ≡ spec.listed S n → ((c : ℕ) → S c ≡ true → c < n) → seen_in xs ≡ S
seen_members S n xs is below =
    ap seen_in is ∙ seen_listed S n (λ c le. false_from_ne_true (S c) (λ here. let lt : c < n = below c here in absurd (omega arith)))

-- # Truth that is read from the one and from the other

pub truth_is : {E : Type 0} (r new : Reading) (binders : List Val) (f : Fo) (o : Result Bool E) → r ≡ new → binders ≡ [] → IfOk o (λ t. t ≡ truth r binders f) → IfOk o (λ t. t ≡ truth new [] f)
truth_is r new binders f (Ok t) is none h = h ∙ ap (λ bs. truth r bs f) none ∙ ap (λ (r : Reading). truth r [] f) is
truth_is r new binders f (Err e) is none h = tt

pub truth_within : (r new : Reading) (binders : List Val) (f : Fo) → r ≡ new → binders ≡ [] → FoWithin new [] f → FoWithin r binders f
truth_within r new binders f is none h = subst (λ bs. FoWithin r bs f) (sym none) (subst (λ (r : Reading). FoWithin r [] f) (sym is) h)

-- # Invariants, one at a time

drop_at : {A : Type 0} (xs : List A) (i : ℕ) (x : A) → slice_get xs i ≡ Some x → drop i xs ≡ x ∷ drop (suc i) xs
drop_at [] i x e = absurd (nothing x e)
drop_at (y ∷ ys) zero x e = ap (λ z. z ∷ ys) (one_found (Some y) y x refl e)
drop_at (y ∷ ys) (suc i) x e = drop_at ys i x e

checked_at : (r : Reading) (invs : List InvDecl) (n : ℕ) (inv : InvDecl) → slice_get invs n ≡ Some inv
    → spec.checked r n (map inv_view (drop n invs))
    ≡ (if truth r [] (formula_view inv.body) then spec.checked r (n + 1) (map inv_view (drop (n + 1) invs)) else seen.Violated (seen.Invariant n))
checked_at r invs n inv at =
    ap (λ xs. spec.checked r n (map inv_view xs)) (drop_at invs n inv at ∙ ap (λ m. inv ∷ drop m invs) (sym (add-one n)))

-- an invariant that is true is passed over
pub checked_true : (r : Reading) (invs : List InvDecl) (n : ℕ) (inv : InvDecl) → slice_get invs n ≡ Some inv → truth r [] (formula_view inv.body) ≡ true
    → spec.checked r n (map inv_view (drop n invs)) ≡ spec.checked r (n + 1) (map inv_view (drop (n + 1) invs))
checked_true r invs n inv at holds =
    checked_at r invs n inv at ∙ ap (λ b. if b then spec.checked r (n + 1) (map inv_view (drop (n + 1) invs)) else seen.Violated (seen.Invariant n)) holds

-- one that is false is found
pub checked_false : (r : Reading) (invs : List InvDecl) (n : ℕ) (inv : InvDecl) → slice_get invs n ≡ Some inv → truth r [] (formula_view inv.body) ≡ false
    → spec.checked r n (map inv_view (drop n invs)) ≡ seen.Violated (seen.Invariant n)
checked_false r invs n inv at fails =
    checked_at r invs n inv at ∙ ap (λ b. if b then spec.checked r (n + 1) (map inv_view (drop (n + 1) invs)) else seen.Violated (seen.Invariant n)) fails

pub checked_all : (r : Reading) (invs : List InvDecl) (n : ℕ) → length invs ≤ n → spec.checked r n (map inv_view (drop n invs)) ≡ seen.Checked
checked_all r invs n end = ap (λ xs. spec.checked r n (map inv_view xs)) (drop_all n invs end)

pub inv_at : (invs : List InvDecl) (n : ℕ) (inv : InvDecl) → slice_get invs n ≡ Some inv → slice_get (map inv_view invs) n ≡ Some (inv_view inv)
inv_at invs n inv at = slice_get-map inv_view invs n ∙ ap (λ o. option_map inv_view o) at

-- # A check

pub invariants_fit : (p : Program) (s : State) (visible : ℕ → Bool) → Fits p s → IsHistory (calls_view s.history)
    → (n : ℕ) (inv : Inv) → slice_get (program_view p).invs n ≡ Some inv → FoWithin (spec.at_snapshot (program_view p) (state_view (program_view p) s) visible) [] inv.body
invariants_fit p s visible fits history n inv at = invariant-within (program_view p) p.well_formed (state_view (program_view p) s) fits.typed history n inv at visible

-- how broad a check is
abbrev pub check_breadth : Program → State → ℕ
check_breadth p s = of_all (spec.plain (state_view (program_view p) s)) (program_view p).invs

pub check_narrow : (p : Program) (s : State) (sees : List ℕ) → check_breadth p s ≤ 50000000
    → limit_of (program_view p) (state_view (program_view p) s) (seen.Check sees) ≡ None
check_narrow p s sees le = ap (λ b. if b then Some limit.Breadth else None) (le-ltb 50000000 (check_breadth p s) le)

pub check_broad : (p : Program) (s : State) (sees : List ℕ) → 50000000 < check_breadth p s
    → limit_of (program_view p) (state_view (program_view p) s) (seen.Check sees) ≡ Some limit.Breadth
check_broad p s sees lt = ap (λ b. if b then Some limit.Breadth else None) (lt-ltb 50000000 (check_breadth p s) lt)

-- the check's answer, of what was found
abbrev pub event_of : Option ℕ → Event
event_of None = event.Checked
event_of (Some n) = event.Violated (told_what.Invariant n)

tells_found : (v : Prog) (s : State) (found : Option ℕ) → Tells v s (answer_of found) s (event_of found)
tells_found v s None = (refl, refl)
tells_found v s (Some n) = (refl, refl)

pub check_does : (p : Program) (s : State) (sees : List ℕ) (r : Reading) (visible : ℕ → Bool) (found : Option ℕ) → Fits p s → check_breadth p s ≤ 50000000
    → r ≡ spec.at_snapshot (program_view p) (state_view (program_view p) s) visible → visible ≡ spec.calls_of (calls_view s.history) sees
    → answer_of found ≡ spec.checked r 0 (program_view p).invs → Does p s (seen.Check sees) s (event_of found)
check_does p s sees r visible found fits narrow reads sees_so is =
    let v = program_view p in
    let sv = state_view v s in
    let effect : answer_of found ≡ spec.effect v sv (seen.Check sees) =
    is ∙ ap (λ (r : Reading). spec.checked r 0 v.invs) (reads ∙ ap (spec.at_snapshot v sv) sees_so) in
    record {
      within = check_narrow p s sees narrow;
      tells = subst (λ answer. Tells v s answer s (event_of found)) effect (tells_found v s found);
      kept = fits.kept;
      places = refl;
      known = fits.known;
    }
