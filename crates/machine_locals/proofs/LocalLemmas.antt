-- What a step of an invocation by itself makes of a state, as the machine's effect says it.
use Rattle.std.proofs.Common.{◌≡◌, ℕ, ◌<◌, ◌≤◌, Bool, true, false, ◌&&◌, refl, sym, ◌∙◌, ap, subst, arith, List, [], length, Option, Some, None, slice_get, slice_set, nat_lt}
use Rattle.std.specs.Prelude.{if◌then◌else◌, not}
use Rattle.std.specs.List.{list_all}
use Rattle.std.specs.Option.{option_map_or}
use Rattle.std.proofs.lemmas.Bool.{true≢false, lt-ltb, le-ltb}
use Rattle.rp_span.specs.declared.Span.{Span}
use Rattle.rp_value.specs.ValueView.{value_view}
use Rattle.rp_value.specs.declared.value.Value.{Value}
use Rattle.rp_lang.specs.Exprs.{Ex}
use Rattle.rp_lang.specs.Stmts.{St}
use Rattle.rp_lang.specs.Views.{kind_view}
use Rattle.rp_lang.specs.declared.expr.Expr.{Expr}
use Rattle.rp_lang.specs.declared.stmt.StmtKind.TheVariants as made
use Rattle.rp_lang.proofs.StmtViews.{kind_view-Return, kind_view-Return-with}
use Rattle.code_points.specs.Points.{does_at}
use Rattle.rp_lang.specs.Formulas.{Fo}
use Rattle.rp_lang.specs.Programs.{Prog}
use Rattle.rp_lang.specs.declared.program.Program.{Program}
use Rattle.rp_lang.specs.declared.event.Event.TheVariants as event
use Rattle.rp_lang.specs.declared.event.What.TheVariants as told_what
use Rattle.rp_lang.specs.declared.limit.LimitName.{LimitName}
use Rattle.rp_lang.specs.declared.limit.LimitName.TheVariants as limit
use Rattle.rp_lang.specs.ProgramView.{program_view}
use Rattle.crdt_defs.specs.Atoms.{ints_fit}
use Rattle.crdt_defs.specs.Calls.{calls_view}
use Rattle.crdt_defs.specs.Truths.{Reading, value, truth, truth_val}
use Rattle.crdt_truth.specs.Breadths.{breadth}
use Rattle.crdt_truth.specs.declared.reading.Info.{Info}
use Rattle.event_machine.specs.Code as left
use Rattle.event_machine.specs.Code.{Code}
use Rattle.event_machine.specs.States as seen
use Rattle.event_machine.specs.Machine as spec
use Rattle.machine_effects.specs.Limits.{limit_of, put_by_inv, put_next, broad_inv, broad_next}
use Rattle.machine_effects.specs.Steps.{Tells, Does, Stops}
use Rattle.machine_effects.specs.declared.error.StepErr.{StepErr}
use Rattle.machine_effects.specs.declared.error.StepErr.TheVariants as err
use Rattle.machine_effects.proofs.EffectLemmas.{run_does, nothing_done, put_on, put_seen, put_fits}
use Rattle.machine_effects.proofs.KeptLemmas.{run_fits}
use Rattle.machine_locals.specs.Lefts.{HasLeft}
use Rattle.machine_reads.specs.Reads.{Viewed, read_at, TooGreat, TooBroad}
use Rattle.machine_state.specs.declared.state.Run.{Run}
use Rattle.machine_state.specs.declared.state.State.{State}
use Rattle.machine_state.specs.Fits.{Fits}
use Rattle.machine_state.specs.StateView.{inv_view, left_of, state_view}
use Rattle.machine_state.proofs.StateLemmas as state
use Rattle.machine_state.proofs.StateLemmas.{viewed}

-- # Limits and effects, by the code that is next

abbrev pub local_limit : Reading → ℕ → Code → Option LimitName
local_limit r i code =
    if not (list_all ints_fit (put_next r (seen.Local i) code)) then Some limit.Integer else if nat_lt 50000000 (broad_next r.parts code) then Some limit.Breadth else None

pub limit_is : (p : Program) (s : State) (i : ℕ) (inv : seen.Invocation) (code : Code) → Viewed p s i inv → inv.left ≡ code
    → limit_of (program_view p) (state_view (program_view p) s) (seen.Local i) ≡ local_limit (read_at p s inv) i code
limit_is p s i inv code at is =
    let v = program_view p in
    let sv = state_view v s in
    ap (λ o. if not (list_all ints_fit (put_by_inv v sv (seen.Local i) o)) then Some limit.Integer else if nat_lt 50000000 (broad_inv v sv o) then Some limit.Breadth else None) at
    ∙ ap (local_limit (read_at p s inv) i) is

pub effect_is : (p : Program) (s : State) (i : ℕ) (inv : seen.Invocation) (code : Code) → Viewed p s i inv → inv.left ≡ code
    → spec.effect (program_view p) (state_view (program_view p) s) (seen.Local i) ≡ spec.local (program_view p) (state_view (program_view p) s) i inv code
effect_is p s i inv code at is =
    let v = program_view p in
    let sv = state_view v s in
    ap (λ o. option_map_or (λ (inv : seen.Invocation). spec.local v sv i inv inv.left) o (seen.Moved sv)) at ∙ ap (spec.local v sv i inv) is

-- an integer that isn't of 64 bits is put nowhere
pub fit_limit : (b : Bool) → b ≡ true → ◌≡◌ {A = Option LimitName} (if not (b && true) then Some limit.Integer else None) None
fit_limit b is = ap (λ b. if not (b && true) then Some limit.Integer else None) is

pub wide_limit : (b : Bool) → b ≡ false → ◌≡◌ {A = Option LimitName} (if not (b && true) then Some limit.Integer else None) (Some limit.Integer)
wide_limit b is = ap (λ b. if not (b && true) then Some limit.Integer else None) is

pub narrow_limit : (n : ℕ) → n ≤ 50000000 → ◌≡◌ {A = Option LimitName} (if nat_lt 50000000 n then Some limit.Breadth else None) None
narrow_limit n le = ap (λ b. if b then Some limit.Breadth else None) (le-ltb 50000000 n le)

pub broad_limit : (n : ℕ) → 50000000 < n → ◌≡◌ {A = Option LimitName} (if nat_lt 50000000 n then Some limit.Breadth else None) (Some limit.Breadth)
broad_limit n lt = ap (λ b. if b then Some limit.Breadth else None) (lt-ltb 50000000 n lt)

-- # Errors

-- the value that is next has an integer that isn't of 64 bits
pub great_stops : (p : Program) (s : State) (i : ℕ) (e : Ex) (why : StepErr) → Fits p s → i < length s.infos → TooGreat p s i e why
    → ((inv : seen.Invocation) → Viewed p s i inv → (ints_fit (value (read_at p s inv) [] e) ≡ false) → limit_of (program_view p) (state_view (program_view p) s) (seen.Local i) ≡ Some limit.Integer)
    → Stops p s (seen.Local i) s why
great_stops p s i e (err.Limit name) fits within h meets =
    let same : length s.infos ≡ length s.runs = fits.kept.runs in
    let it = viewed (program_view p) s i same (omega arith) in
    (refl, meets _ it.is (h.1 _ it.is) ∙ ap (λ n. Some n) (sym h.0))
great_stops p s i e (err.Refused why) fits within h meets = absurd h
great_stops p s i e err.Memory fits within h meets = (refl, tt)

-- the formula that is next is too broad
pub broad_stops : (p : Program) (s : State) (i : ℕ) (f : Fo) (why : StepErr) → Fits p s → i < length s.infos → TooBroad p s i f why
    → ((inv : seen.Invocation) → Viewed p s i inv → 50000000 < breadth (read_at p s inv).parts f → limit_of (program_view p) (state_view (program_view p) s) (seen.Local i) ≡ Some limit.Breadth)
    → Stops p s (seen.Local i) s why
broad_stops p s i f (err.Limit name) fits within h meets =
    let same : length s.infos ≡ length s.runs = fits.kept.runs in
    let it = viewed (program_view p) s i same (omega arith) in
    (refl, meets _ it.is (h.1 _ it.is) ∙ ap (λ n. Some n) (sym h.0))
broad_stops p s i f (err.Refused why) fits within h meets = absurd h
broad_stops p s i f err.Memory fits within h meets = (refl, tt)

-- # Nothing is done

quiet_effect : (p : Prog) (s : seen.State) (i : ℕ) (inv : seen.Invocation) (code : Code) → spec.is_same seen.ToLocal (spec.next_action code) ≡ false → spec.local p s i inv code ≡ seen.Moved s
quiet_effect p s i inv (left.Put slot e next) is = absurd (true≢false is)
quiet_effect p s i inv (left.Decide slot f next) is = absurd (true≢false is)
quiet_effect p s i inv (left.New slot of next) is = refl
quiet_effect p s i inv (left.Operate op args next) is = refl
quiet_effect p s i inv (left.Assert at f next) is = absurd (true≢false is)
quiet_effect p s i inv (left.Choose f then_ else_) is = absurd (true≢false is)
quiet_effect p s i inv (left.Match on arms) is = absurd (true≢false is)
quiet_effect p s i inv (left.Begin next) is = refl
quiet_effect p s i inv (left.End at next) is = refl
quiet_effect p s i inv (left.Return at result) is = refl

quiet_limit : (r : Reading) (i : ℕ) (code : Code) → spec.is_same seen.ToLocal (spec.next_action code) ≡ false → local_limit r i code ≡ None
quiet_limit r i (left.Put slot e next) is = absurd (true≢false is)
quiet_limit r i (left.Decide slot f next) is = absurd (true≢false is)
quiet_limit r i (left.New slot of next) is = refl
quiet_limit r i (left.Operate op args next) is = refl
quiet_limit r i (left.Assert at f next) is = absurd (true≢false is)
quiet_limit r i (left.Choose f then_ else_) is = absurd (true≢false is)
quiet_limit r i (left.Match on arms) is = absurd (true≢false is)
quiet_limit r i (left.Begin next) is = refl
quiet_limit r i (left.End at next) is = refl
quiet_limit r i (left.Return at result) is = refl

-- nothing is done where something else is next
pub local_nothing : (p : Program) (s : State) (i : ℕ) → Fits p s → i < length s.infos
    → ((inv : seen.Invocation) → Viewed p s i inv → spec.is_same seen.ToLocal (spec.next_action inv.left) ≡ false) → Does p s (seen.Local i) s event.Moved
local_nothing p s i fits within quiet =
    let v = program_view p in
    let sv = state_view v s in
    let same : length s.infos ≡ length s.runs = fits.kept.runs in
    let it = viewed v s i same (omega arith) in
    let inv = inv_view v (calls_view s.history) it.info it.run in
    nothing_done p s (seen.Local i) fits
    (limit_is p s i inv inv.left it.is refl ∙ quiet_limit (read_at p s inv) i inv.left (quiet inv it.is))
    (effect_is p s i inv inv.left it.is refl ∙ quiet_effect v sv i inv inv.left (quiet inv it.is))

-- a return isn't a step by itself
pub quiet_return : (from : ℕ → Code) (n : ℕ) (at : Span) (result : Option Expr) → spec.is_same seen.ToLocal (spec.next_action (does_at from n (kind_view (made.Return result) at))) ≡ false
quiet_return from n at None = ap (λ (s : St). spec.is_same seen.ToLocal (spec.next_action (does_at from n s))) (kind_view-Return at)
quiet_return from n at (Some e) = ap (λ (s : St). spec.is_same seen.ToLocal (spec.next_action (does_at from n s))) (kind_view-Return-with e at)

-- # One run is written

-- the invocation of that number stands so, and has this code left
pub record Stood (p : Program) (s : State) (i : ℕ) (code : (ℕ → Code) → Code) : Type 0 where
  pub info : Info
  pub run : Run
  pub is_info : slice_get s.infos i ≡ Some info
  pub is_run : slice_get s.runs i ≡ Some run
  pub at : Viewed p s i (inv_view (program_view p) (calls_view s.history) info run)
  pub next : left_of (slice_get (program_view p).procs info.proc) run.at ≡ code (left_of (slice_get (program_view p).procs info.proc))

pub stood : (p : Program) (s : State) (i : ℕ) (code : (ℕ → Code) → Code) → Fits p s → i < length s.infos → HasLeft p s i code → Stood p s i code
stood p s i code fits within has =
    let same : length s.infos ≡ length s.runs = fits.kept.runs in
    let it = viewed (program_view p) s i same (omega arith) in
    record { info = it.info; run = it.run; is_info = it.is_info; is_run = it.is_run; at = it.is; next = has _ it.is }

-- what the code writes, where only the slots and the point change
pub moved : (p : Program) (s : State) (i : ℕ) (info : Info) (run : Run) (slots : List (Option Value)) (at : ℕ) (code : Code) → Fits p s
    → slice_get s.infos i ≡ Some info → slice_get s.runs i ≡ Some run
    → ((n : ℕ) (v : Value) → slice_get slots n ≡ Some (Some v) → ints_fit (value_view v) ≡ true)
    → left_of (slice_get (program_view p).procs info.proc) run.at ≡ code
    → local_limit (read_at p s (inv_view (program_view p) (calls_view s.history) info run)) i code ≡ None
    → spec.local (program_view p) (state_view (program_view p) s) i (inv_view (program_view p) (calls_view s.history) info run) code
    ≡ seen.Moved (spec.with_invocation (state_view (program_view p) s) i (inv_view (program_view p) (calls_view s.history) info (record run { slots = slots; at = at })))
    → Does p s (seen.Local i) (record s { runs = slice_set s.runs i (record run { slots = slots; at = at }) }) event.Moved
moved p s i info run slots at code fits is_info is_run ints is within does =
    let v = program_view p in
    let inv = inv_view v (calls_view s.history) info run in
    let old = run_fits s i run fits.kept is_run in
    let at_inv : Viewed p s i inv = state.viewed_at v s i info run is_info is_run in
    run_does p s i info run (record run { slots = slots; at = at }) (seen.Local i) fits is_info is_run
    (record { ascending = old.ascending; committed = old.committed; later = old.later; ints = ints })
    (limit_is p s i inv code at_inv is ∙ within)
    (λ x. refl)
    (fits.kept.told i info run is_info is_run)
    (effect_is p s i inv code at_inv is ∙ does)

-- # Assignments

pub truth_fits : (b : Bool) → ints_fit (truth_val b) ≡ true
truth_fits true = refl
truth_fits false = refl

pub put_does : (p : Program) (s : State) (i slot behind : ℕ) (e : Ex) (v : Value) → Fits p s
    → (it : Stood p s i (λ at. left.Put slot e (at behind)))
    → value_view v ≡ value (read_at p s (inv_view (program_view p) (calls_view s.history) it.info it.run)) [] e → ints_fit (value_view v) ≡ true
    → Does p s (seen.Local i) (record s { runs = slice_set s.runs i (put_on it.run slot v behind) }) event.Moved
put_does p s i slot behind e v fits it is fit =
    let w = program_view p in
    let sv = state_view w s in
    let calls = calls_view s.history in
    let inv = inv_view w calls it.info it.run in
    let next = left_of (slice_get w.procs it.info.proc) behind in
    let put = put_fits s i slot behind it.run v fits.kept it.is_run fit in
    moved p s i it.info it.run (slice_set it.run.slots slot (Some v)) behind (left.Put slot e next) fits it.is_info it.is_run put.ints it.next
    (fit_limit (ints_fit (value (read_at p s inv) [] e)) (ap ints_fit (sym is) ∙ fit))
    (ap (λ x. seen.Moved (spec.with_invocation sv i (record (spec.with_slot inv slot x) { left = next }))) (sym is)
    ∙ ap (λ new. seen.Moved (spec.with_invocation sv i new)) (sym (put_seen p calls it.info it.run slot behind v next refl)))

pub decide_does : (p : Program) (s : State) (i slot behind : ℕ) (f : Fo) (holds : Bool) (v : Value) → Fits p s
    → (it : Stood p s i (λ at. left.Decide slot f (at behind)))
    → value_view v ≡ truth_val holds → holds ≡ truth (read_at p s (inv_view (program_view p) (calls_view s.history) it.info it.run)) [] f
    → breadth (read_at p s (inv_view (program_view p) (calls_view s.history) it.info it.run)).parts f ≤ 50000000
    → Does p s (seen.Local i) (record s { runs = slice_set s.runs i (put_on it.run slot v behind) }) event.Moved
decide_does p s i slot behind f holds v fits it is_val is narrow =
    let w = program_view p in
    let sv = state_view w s in
    let calls = calls_view s.history in
    let inv = inv_view w calls it.info it.run in
    let next = left_of (slice_get w.procs it.info.proc) behind in
    let put = put_fits s i slot behind it.run v fits.kept it.is_run (ap ints_fit is_val ∙ truth_fits holds) in
    let val : truth_val (truth (read_at p s inv) [] f) ≡ value_view v = ap truth_val (sym is) ∙ sym is_val in
    moved p s i it.info it.run (slice_set it.run.slots slot (Some v)) behind (left.Decide slot f next) fits it.is_info it.is_run put.ints it.next
    (narrow_limit (breadth (read_at p s inv).parts f) narrow)
    (ap (λ x. seen.Moved (spec.with_invocation sv i (record (spec.with_slot inv slot x) { left = next }))) val
    ∙ ap (λ new. seen.Moved (spec.with_invocation sv i new)) (sym (put_seen p calls it.info it.run slot behind v next refl)))

-- # Branches and assertions

way_left : (left : ℕ → Code) (b : Bool) (x y : ℕ) → left (if b then x else y) ≡ (if b then left x else left y)
way_left left true x y = refl
way_left left false x y = refl

pub choose_does : (p : Program) (s : State) (i first other at : ℕ) (f : Fo) (holds : Bool) → Fits p s
    → (it : Stood p s i (λ at. left.Choose f (at first) (at other)))
    → at ≡ (if holds then first else other) → holds ≡ truth (read_at p s (inv_view (program_view p) (calls_view s.history) it.info it.run)) [] f
    → breadth (read_at p s (inv_view (program_view p) (calls_view s.history) it.info it.run)).parts f ≤ 50000000
    → Does p s (seen.Local i) (record s { runs = slice_set s.runs i (record it.run { at = at }) }) event.Moved
choose_does p s i first other at f holds fits it goes is narrow =
    let w = program_view p in
    let sv = state_view w s in
    let calls = calls_view s.history in
    let inv = inv_view w calls it.info it.run in
    let from : ℕ → Code = left_of (slice_get w.procs it.info.proc) in
    let old = run_fits s i it.run fits.kept it.is_run in
    let onward : (if truth (read_at p s inv) [] f then from first else from other) ≡ from at =
    ap (λ b. if b then from first else from other) (sym is) ∙ sym (way_left from holds first other) ∙ ap from (sym goes) in
    moved p s i it.info it.run it.run.slots at (left.Choose f (from first) (from other)) fits it.is_info it.is_run old.ints it.next
    (narrow_limit (breadth (read_at p s inv).parts f) narrow)
    (ap (λ c. seen.Moved (spec.with_invocation sv i (record inv { left = c }))) onward)

pub assert_does : (p : Program) (s : State) (i behind : ℕ) (place : Span) (f : Fo) → Fits p s
    → (it : Stood p s i (λ at. left.Assert place f (at behind)))
    → truth (read_at p s (inv_view (program_view p) (calls_view s.history) it.info it.run)) [] f ≡ true
    → breadth (read_at p s (inv_view (program_view p) (calls_view s.history) it.info it.run)).parts f ≤ 50000000
    → Does p s (seen.Local i) (record s { runs = slice_set s.runs i (record it.run { at = behind }) }) event.Moved
assert_does p s i behind place f fits it holds narrow =
    let w = program_view p in
    let sv = state_view w s in
    let calls = calls_view s.history in
    let inv = inv_view w calls it.info it.run in
    let next = left_of (slice_get w.procs it.info.proc) behind in
    let old = run_fits s i it.run fits.kept it.is_run in
    moved p s i it.info it.run it.run.slots behind (left.Assert place f next) fits it.is_info it.is_run old.ints it.next
    (narrow_limit (breadth (read_at p s inv).parts f) narrow)
    (ap (λ b. if b then seen.Moved (spec.with_invocation sv i (record inv { left = next })) else seen.Violated (seen.Assertion place)) holds)

pub assert_fails : (p : Program) (s : State) (i behind : ℕ) (place : Span) (f : Fo) → Fits p s
    → (it : Stood p s i (λ at. left.Assert place f (at behind)))
    → truth (read_at p s (inv_view (program_view p) (calls_view s.history) it.info it.run)) [] f ≡ false
    → breadth (read_at p s (inv_view (program_view p) (calls_view s.history) it.info it.run)).parts f ≤ 50000000
    → Does p s (seen.Local i) s (event.Violated (told_what.Assertion place))
assert_fails p s i behind place f fits it fails narrow =
    let w = program_view p in
    let sv = state_view w s in
    let inv = inv_view w (calls_view s.history) it.info it.run in
    let next = left_of (slice_get w.procs it.info.proc) behind in
    let code = left.Assert place f next in
    let effect : spec.effect w sv (seen.Local i) ≡ seen.Violated (seen.Assertion place) =
    effect_is p s i inv code it.at it.next
    ∙ ap (λ b. if b then seen.Moved (spec.with_invocation sv i (record inv { left = next })) else seen.Violated (seen.Assertion place)) fails in
    record {
      within = limit_is p s i inv code it.at it.next ∙ narrow_limit (breadth (read_at p s inv).parts f) narrow;
      tells = subst (λ answer. Tells w s answer s (event.Violated (told_what.Assertion place))) (sym effect) (refl, refl);
      kept = fits.kept;
      places = refl;
      known = fits.known;
    }
