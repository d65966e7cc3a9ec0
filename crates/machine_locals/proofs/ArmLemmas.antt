-- The arm of the constructor that a value is built with.
use Rattle.std.proofs.Common.{◌≡◌, ℕ, ◌+◌, ◌<◌, ◌≤◌, Bool, true, false, nat_eq, refl, sym, ◌∙◌, ap, List, [], ◌∷◌, length, get_or, drop, Option, Some, None, slice_get, slice_set}
use Rattle.std.specs.Prelude.{if◌then◌else◌}
use Rattle.std.proofs.lemmas.List.{drop_more, drop_all}
use Rattle.rp_value.specs.Values as val
use Rattle.rp_value.specs.Values.{Val, Vals}
use Rattle.rp_value.specs.ValueView.{values_view}
use Rattle.rp_value.specs.declared.value.Value.{Value}
use Rattle.rp_lang.specs.Exprs.{Ex}
use Rattle.rp_lang.specs.Stmts.{StArms, no_st_arm, also_st_arm}
use Rattle.rp_lang.specs.declared.stmt.StmtArm.{StmtArm}
use Rattle.rp_lang.specs.declared.stmt.StmtKind.TheViews.{out-StmtArm}
use Rattle.rp_lang.specs.Views.{StArmView, stmts_view, stmt_arms_view}
use Rattle.rp_lang.proofs.StmtViews.{stmt_arm_view-parts}
use Rattle.rp_lang.specs.declared.program.Program.{Program}
use Rattle.rp_lang.specs.declared.event.Event.TheVariants as event
use Rattle.rp_lang.specs.ProgramView.{program_view}
use Rattle.code_points.specs.Points.{size, arms_size, arms_from}
use Rattle.crdt_defs.specs.Atoms.{ints_fit}
use Rattle.crdt_defs.specs.Calls.{calls_view}
use Rattle.crdt_defs.specs.Truths.{value, is_built}
use Rattle.event_machine.specs.Code as left
use Rattle.event_machine.specs.Code.{Code}
use Rattle.event_machine.specs.States as seen
use Rattle.event_machine.specs.Machine as spec
use Rattle.machine_effects.specs.Steps.{Does}
use Rattle.machine_effects.proofs.EffectLemmas.{nothing_done}
use Rattle.machine_effects.proofs.KeptLemmas.{run_fits}
use Rattle.machine_locals.specs.Lefts.{arm_in, built}
use Rattle.machine_locals.specs.Slots.{filled}
use Rattle.machine_locals.proofs.LocalLemmas.{Stood, limit_is, effect_is, fit_limit, moved}
use Rattle.machine_locals.proofs.SlotLemmas.{filled_seen, filled_ints}
use Rattle.machine_reads.specs.Reads.{read_at}
use Rattle.machine_state.specs.declared.state.State.{State}
use Rattle.machine_state.specs.Fits.{Fits}
use Rattle.machine_state.specs.StateView.{inv_view, left_of, state_view}
use Rattle.machine_state.proofs.StateLemmas.{nothing, one_found}

-- # A walk over the arms of the code

arms_cons : (arm : StmtArm) (arms : List StmtArm)
    → stmt_arms_view (arm ∷ arms) ≡ also_st_arm (out-StmtArm arm).con (out-StmtArm arm).slots (stmts_view (out-StmtArm arm).body) (stmt_arms_view arms)
arms_cons arm arms = ap (λ (a : StArmView). also_st_arm a.0 a.1 a.2 (stmt_arms_view arms)) (stmt_arm_view-parts arm)

-- the arms from one on are that one and those behind it
pub arms_split : (arms : List StmtArm) (i : ℕ) (arm : StmtArm) → i < length arms → arm ≡ get_or arms i arm
    → stmt_arms_view (drop i arms) ≡ also_st_arm (out-StmtArm arm).con (out-StmtArm arm).slots (stmts_view (out-StmtArm arm).body) (stmt_arms_view (drop (i + 1) arms))
arms_split arms i arm lt is =
    ap stmt_arms_view (drop_more arms i arm lt ∙ ap (λ a. a ∷ drop (i + 1) arms) (sym is)) ∙ arms_cons arm (drop (i + 1) arms)

pub arm_here : (arms : List StmtArm) (i con at : ℕ) (arm : StmtArm) (target : Option (List ℕ × ℕ)) → i < length arms → arm ≡ get_or arms i arm
    → nat_eq con (out-StmtArm arm).con ≡ true → arm_in (stmt_arms_view (drop i arms)) con at ≡ target → Some ((out-StmtArm arm).slots, at) ≡ target
arm_here arms i con at arm target lt is same before =
    let rest = stmt_arms_view (drop (i + 1) arms) in
    let body = stmts_view (out-StmtArm arm).body in
    sym (ap (λ as_. arm_in as_ con at) (arms_split arms i arm lt is)
    ∙ ap (λ b. if b then Some ((out-StmtArm arm).slots, at) else arm_in rest con (at + (size body + 1))) same)
    ∙ before

pub arm_behind : (arms : List StmtArm) (i con at next : ℕ) (arm : StmtArm) (target : Option (List ℕ × ℕ)) → i < length arms → arm ≡ get_or arms i arm
    → nat_eq con (out-StmtArm arm).con ≡ false → next ≡ at + (size (stmts_view (out-StmtArm arm).body) + 1)
    → arm_in (stmt_arms_view (drop i arms)) con at ≡ target → arm_in (stmt_arms_view (drop (i + 1) arms)) con next ≡ target
arm_behind arms i con at next arm target lt is other goes before =
    let rest = stmt_arms_view (drop (i + 1) arms) in
    let body = stmts_view (out-StmtArm arm).body in
    ap (arm_in rest con) goes
    ∙ sym (ap (λ as_. arm_in as_ con at) (arms_split arms i arm lt is)
    ∙ ap (λ b. if b then Some ((out-StmtArm arm).slots, at) else arm_in rest con (at + (size body + 1))) other)
    ∙ before

pub arm_nowhere : (arms : List StmtArm) (i con at : ℕ) (target : Option (List ℕ × ℕ)) → length arms ≤ i → arm_in (stmt_arms_view (drop i arms)) con at ≡ target → None ≡ target
arm_nowhere arms i con at target end before = sym (ap (λ xs. arm_in (stmt_arms_view xs) con at) (drop_all i arms end)) ∙ before

-- the points of an arm and of those behind it
pub room_split : (arms : List StmtArm) (i : ℕ) (arm : StmtArm) → i < length arms → arm ≡ get_or arms i arm
    → arms_size (stmt_arms_view (drop i arms)) ≡ size (stmts_view (out-StmtArm arm).body) + 1 + arms_size (stmt_arms_view (drop (i + 1) arms))
room_split arms i arm lt is = ap arms_size (arms_split arms i arm lt is)

-- # The machine's arms

-- one arm more, where an arm is found
found_step : (b : Bool) (here there target : seen.Answer) (first found : List ℕ × ℕ) (others : Option (List ℕ × ℕ)) → (if b then Some first else others) ≡ Some found
    → (first ≡ found → here ≡ target) → (others ≡ Some found → there ≡ target) → (if b then here else there) ≡ target
found_step true here there target first found others is one rest = one (one_found (Some first) first found refl is)
found_step false here there target first found others is one rest = rest is

-- and where none is
none_step : (b : Bool) (here there target : seen.Answer) (first : List ℕ × ℕ) (others : Option (List ℕ × ℕ)) → (if b then Some first else others) ≡ None
    → (others ≡ None → there ≡ target) → (if b then here else there) ≡ target
none_step true here there target first others is rest = absurd (nothing first (sym is))
none_step false here there target first others is rest = rest is

-- the invocation in the arm with these slots, at its first point
abbrev inside : seen.State → ℕ → seen.Invocation → Val → (ℕ → Code) → List ℕ × ℕ → seen.Answer
inside s i inv v from found = seen.Moved (spec.with_invocation s i (record (spec.with_fields inv found.0 v) { left = from found.1 }))

into_found : (s : seen.State) (i : ℕ) (inv : seen.Invocation) (con : ℕ) (fields : Vals) (from : ℕ → Code) (arms : StArms) (first : ℕ) (found : List ℕ × ℕ) → arm_in arms con first ≡ Some found
    → spec.into_arm s i inv (val.Con con fields) (arms_from from arms first) ≡ inside s i inv (val.Con con fields) from found
into_found s i inv con fields from no_st_arm first found is = absurd (nothing found is)
into_found s i inv con fields from (also_st_arm c slots body rest) first found is =
    let v = val.Con con fields in
    found_step (nat_eq con c) (inside s i inv v from (slots, first)) (spec.into_arm s i inv v (arms_from from rest (first + (size body + 1)))) (inside s i inv v from found)
    (slots, first) found (arm_in rest con (first + (size body + 1))) is
    (λ e. ap (inside s i inv v from) e)
    (λ e. into_found s i inv con fields from rest (first + (size body + 1)) found e)

into_none : (s : seen.State) (i : ℕ) (inv : seen.Invocation) (con : ℕ) (fields : Vals) (from : ℕ → Code) (arms : StArms) (first : ℕ) → arm_in arms con first ≡ None
    → spec.into_arm s i inv (val.Con con fields) (arms_from from arms first) ≡ seen.Moved s
into_none s i inv con fields from no_st_arm first is = refl
into_none s i inv con fields from (also_st_arm c slots body rest) first is =
    let v = val.Con con fields in
    none_step (nat_eq con c) (inside s i inv v from (slots, first)) (spec.into_arm s i inv v (arms_from from rest (first + (size body + 1)))) (seen.Moved s)
    (slots, first) (arm_in rest con (first + (size body + 1))) is
    (λ e. into_none s i inv con fields from rest (first + (size body + 1)) e)

-- a value that no constructor builds
unbuilt : (v : Val) → built v ≡ None → (con : ℕ) → is_built con v ≡ false
unbuilt (val.Int n) is con = refl
unbuilt (val.Str bytes) is con = refl
unbuilt (val.Atom ty num) is con = refl
unbuilt (val.Con c fields) is con = absurd (nothing (c, fields) (sym is))
unbuilt (val.Call c) is con = refl
unbuilt (val.Inv n) is con = refl

into_unbuilt : (s : seen.State) (i : ℕ) (inv : seen.Invocation) (v : Val) (from : ℕ → Code) (arms : StArms) (first : ℕ) → ((con : ℕ) → is_built con v ≡ false)
    → spec.into_arm s i inv v (arms_from from arms first) ≡ seen.Moved s
into_unbuilt s i inv v from no_st_arm first none = refl
into_unbuilt s i inv v from (also_st_arm c slots body rest) first none =
    ap (λ b. if b then seen.Moved (spec.with_invocation s i (record (spec.with_fields inv slots v) { left = from first })) else spec.into_arm s i inv v (arms_from from rest (first + (size body + 1)))) (none c)
    ∙ into_unbuilt s i inv v from rest (first + (size body + 1)) none

pub built_some : (v : Val) (found : ℕ × Vals) → built v ≡ Some found → v ≡ val.Con found.0 found.1
built_some (val.Int n) found is = absurd (nothing found is)
built_some (val.Str bytes) found is = absurd (nothing found is)
built_some (val.Atom ty num) found is = absurd (nothing found is)
built_some (val.Con c fields) found is = ap (λ (f : ℕ × Vals). val.Con f.0 f.1) (one_found (Some (c, fields)) (c, fields) found refl is)
built_some (val.Call c) found is = absurd (nothing found is)
built_some (val.Inv n) found is = absurd (nothing found is)

-- # Effects

matched : (p : Program) (s : State) (i first : ℕ) (on : Ex) (arms : StArms) (v : Val) → Fits p s
    → (it : Stood p s i (λ at. left.Match on (arms_from at arms first)))
    → v ≡ value (read_at p s (inv_view (program_view p) (calls_view s.history) it.info it.run)) [] on → ints_fit v ≡ true
    → spec.into_arm (state_view (program_view p) s) i (inv_view (program_view p) (calls_view s.history) it.info it.run) v (arms_from (left_of (slice_get (program_view p).procs it.info.proc)) arms first)
    ≡ seen.Moved (state_view (program_view p) s)
    → Does p s (seen.Local i) s event.Moved
matched p s i first on arms v fits it is fit stays =
    let w = program_view p in
    let sv = state_view w s in
    let inv = inv_view w (calls_view s.history) it.info it.run in
    let from : ℕ → Code = left_of (slice_get w.procs it.info.proc) in
    let code = left.Match on (arms_from from arms first) in
    nothing_done p s (seen.Local i) fits
    (limit_is p s i inv code it.at it.next ∙ fit_limit (ints_fit (value (read_at p s inv) [] on)) (ap ints_fit (sym is) ∙ fit))
    (effect_is p s i inv code it.at it.next ∙ ap (λ x. spec.into_arm sv i inv x (arms_from from arms first)) (sym is) ∙ stays)

pub match_unbuilt : (p : Program) (s : State) (i first : ℕ) (on : Ex) (arms : StArms) (v : Val) → Fits p s
    → (it : Stood p s i (λ at. left.Match on (arms_from at arms first)))
    → v ≡ value (read_at p s (inv_view (program_view p) (calls_view s.history) it.info it.run)) [] on → ints_fit v ≡ true → built v ≡ None
    → Does p s (seen.Local i) s event.Moved
match_unbuilt p s i first on arms v fits it is fit none =
    let w = program_view p in
    matched p s i first on arms v fits it is fit
    (into_unbuilt (state_view w s) i (inv_view w (calls_view s.history) it.info it.run) v (left_of (slice_get w.procs it.info.proc)) arms first (unbuilt v none))

pub match_none : (p : Program) (s : State) (i first con : ℕ) (fields : Vals) (on : Ex) (arms : StArms) (v : Val) → Fits p s
    → (it : Stood p s i (λ at. left.Match on (arms_from at arms first)))
    → v ≡ value (read_at p s (inv_view (program_view p) (calls_view s.history) it.info it.run)) [] on → ints_fit v ≡ true → built v ≡ Some (con, fields)
    → arm_in arms con first ≡ None → Does p s (seen.Local i) s event.Moved
match_none p s i first con fields on arms v fits it is fit some none =
    let w = program_view p in
    let inv = inv_view w (calls_view s.history) it.info it.run in
    let from : ℕ → Code = left_of (slice_get w.procs it.info.proc) in
    matched p s i first on arms v fits it is fit
    (ap (λ x. spec.into_arm (state_view w s) i inv x (arms_from from arms first)) (built_some v (con, fields) some)
    ∙ into_none (state_view w s) i inv con fields from arms first none)

pub match_does : (p : Program) (s : State) (i first con at : ℕ) (slots : List ℕ) (args : List Value) (on : Ex) (arms : StArms) (v : Val) → Fits p s
    → (it : Stood p s i (λ at. left.Match on (arms_from at arms first)))
    → v ≡ value (read_at p s (inv_view (program_view p) (calls_view s.history) it.info it.run)) [] on → ints_fit v ≡ true → built v ≡ Some (con, values_view args)
    → arm_in arms con first ≡ Some (slots, at)
    → Does p s (seen.Local i) (record s { runs = slice_set s.runs i (record it.run { slots = filled slots args it.run.slots; at = at }) }) event.Moved
match_does p s i first con at slots args on arms v fits it is fit some found =
    let w = program_view p in
    let sv = state_view w s in
    let inv = inv_view w (calls_view s.history) it.info it.run in
    let from : ℕ → Code = left_of (slice_get w.procs it.info.proc) in
    let old = run_fits s i it.run fits.kept it.is_run in
    let is_con : v ≡ val.Con con (values_view args) = built_some v (con, values_view args) some in
    moved p s i it.info it.run (filled slots args it.run.slots) at (left.Match on (arms_from from arms first)) fits it.is_info it.is_run
    (filled_ints slots args it.run.slots (ap ints_fit (sym is_con) ∙ fit) old.ints)
    it.next
    (fit_limit (ints_fit (value (read_at p s inv) [] on)) (ap ints_fit (sym is) ∙ fit))
    (ap (λ x. spec.into_arm sv i inv x (arms_from from arms first)) (sym is ∙ is_con)
    ∙ into_found sv i inv con (values_view args) from arms first (slots, at) found
    ∙ ap (λ xs. seen.Moved (spec.with_invocation sv i (record inv { slots = xs; left = from at }))) (sym (filled_seen slots args it.run.slots)))
