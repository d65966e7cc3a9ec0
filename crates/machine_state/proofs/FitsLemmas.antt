-- What follows from what a state keeps.
use Rattle.std.proofs.Common.{◌≡◌, ℕ, ◌+◌, ◌<◌, ◌≤◌, Bool, true, false, refl, sym, ap, ◌∙◌, subst, arith, List, [], map, min, get_or, length, Option, Some, None, slice_get, inl, inr}
use Rattle.std.specs.Prelude.{not, ◌&&◌, if◌then◌else◌, option_map, option_and_then}
use Rattle.std.specs.List.{list_any}
use Rattle.std.proofs.lemmas.Bool.{true≢false, cases_eq, cases_lt}
use Rattle.std.proofs.lemmas.Option.{slice_get-map, slice_get_within, slice_get_read}
use Rattle.std.proofs.lemmas.List.{length-map}
use Rattle.std.proofs.Math.Path.{fun_ext}
use Rattle.rp_value.specs.Values.{Val}
use Rattle.rp_value.specs.ValueView.{value_view}
use Rattle.rp_lang.specs.declared.program.Program.{Program}
use Rattle.rp_lang.specs.declared.proc.ProcDecl.{ProcDecl}
use Rattle.rp_lang.specs.declared.stmt.Stmt.{Stmt}
use Rattle.rp_lang.specs.Programs.{Prog, Proc}
use Rattle.rp_lang.specs.ProgramView.{program_view}
use Rattle.rp_lang.specs.Views.{proc_view, stmts_view}
use Rattle.crdt_defs.specs.Calls.{Call, calls_view}
use Rattle.crdt_defs.specs.Fitting.{is_id}
use Rattle.crdt_defs.specs.Histories.{before, meets}
use Rattle.crdt_defs.specs.SameValues.{same_val}
use Rattle.crdt_truth.specs.declared.reading.Info.{Info}
use Rattle.crdt_truth.specs.declared.reading.Outcome.{Outcome}
use Rattle.rp_span.specs.declared.Span.{Span}
use Rattle.event_machine.specs.Code.{Code, Return}
use Rattle.event_machine.specs.States as seen
use Rattle.event_machine.specs.Machine as spec
use Rattle.event_machine.specs.WellFormed.{IsWellFormed}
use Rattle.event_machine.proofs.KeptLemmas.{empty-formed}
use Rattle.event_machine.proofs.TypedKept.{empty-typed}
use Rattle.code_points.specs.declared.table.Place.{Place}
use Rattle.code_points.specs.Places as points
use Rattle.code_points.specs.Places.{block_places, look, Tells}
use Rattle.code_points.specs.PointView.{place_view}
use Rattle.code_points.specs.Points.{Spot, size, codes_at, spot_in, goes_on}
use Rattle.code_points.proofs.PlaceLaws.{body_is}
use Rattle.code_points.proofs.PointLaws.{whole}
use Rattle.machine_tests.specs.Transitive.{IsTransitive}
use Rattle.machine_state.specs.declared.state.Run.{Run}
use Rattle.machine_state.specs.declared.state.State.{State}
use Rattle.machine_state.specs.declared.state.Standing as stood
use Rattle.machine_state.specs.declared.state.Standing.TheVariants as stand
use Rattle.machine_state.specs.Accessors.{is_running, next, next_inv, new_left, new_inv, new_type}
use Rattle.machine_state.specs.StateView.{inv_view, standing_view, state_view, left_of}
use Rattle.machine_state.specs.Fits.{AreProcPlaces, Fits, HasRoom}
use Rattle.machine_state.specs.Spots.{IsSpot}
use Rattle.machine_state.proofs.StateLemmas.{nothing, one_found, some_at, viewed, viewed_at}

abbrev empty_state : ℕ → List (List Place) → State
empty_state universe places = record { universe = universe; places = places; history = []; owners = []; committed = []; infos = []; runs = []; generated = []; known = [] }

pub empty_fits : (p : Program) (universe : ℕ) (places : List (List Place)) → HasRoom (program_view p) → AreProcPlaces (program_view p).procs places → 1 ≤ universe → Fits p (empty_state universe places)
empty_fits p universe places room points some = record {
  room = room;
  places = points;
  well_formed = empty-formed (program_view p) universe some;
  typed = empty-typed (program_view p) universe;
  kept = record {
    few = omega arith;
    runs = refl;
    txs = refl;
    calls = omega arith;
    ascending = λ i run at_i. absurd (nothing run at_i);
    committed = λ i run at_i. absurd (nothing run at_i);
    later = λ i t run at_i is. absurd (nothing run at_i);
    ints = λ i n run v at_i at_n. absurd (nothing run at_i);
    told = λ i info run at_info at_i. absurd (nothing run at_i);
  };
  known = λ x. refl;
}

-- what is known
pub known_is : (p : Program) (s : State) → Fits p s
    → ◌≡◌ {A = Val → Bool} (λ v. is_id (program_view p) v && not (list_any (same_val v) (map value_view s.known))) (λ v. is_id (program_view p) v && not (spec.is_known (state_view (program_view p) s) v))
known_is p s fits = fun_ext (λ v. ap (λ b. is_id (program_view p) v && not b) (fits.known v))

-- # What is before a cause is a cause

through : (p : Prog) (s : seen.State) (b c d : ℕ) (o e : Option Call) → IsWellFormed p s → slice_get s.calls d ≡ o → slice_get s.calls c ≡ e
    → meets (λ call. spec.is_in call.past b) e ≡ true → meets (λ call. spec.is_in call.past c) o ≡ true → meets (λ call. spec.is_in call.past b) o ≡ true
through p s b c d None e formed at_d at_c in_e in_o = absurd (true≢false (sym in_o))
through p s b c d (Some call) None formed at_d at_c in_e in_o = absurd (true≢false (sym in_e))
through p s b c d (Some call) (Some cause) formed at_d at_c in_e in_o = formed.history.closed d c b call cause at_d in_o at_c in_e

pub is_transitive : (p : Program) (s : State) → Fits p s → IsTransitive (calls_view s.history)
is_transitive p s fits b c d in_c in_d =
    through (program_view p) (state_view (program_view p) s) b c d (slice_get (calls_view s.history) d) (slice_get (calls_view s.history) c) fits.well_formed refl refl in_c in_d

-- # The procedure of an invocation

decl_from : (p : Program) (n : ℕ) (q : Proc) → slice_get (program_view p).procs n ≡ Some q → n < length p.procs
decl_from p n q is =
    let within : n < length (map proc_view p.procs) = slice_get_within (map proc_view p.procs) n q is in
    let same : length (map proc_view p.procs) ≡ length p.procs = length-map p.procs proc_view in
    omega arith

pub proc_within : (p : Program) (s : State) (i : ℕ) (info : Info) → Fits p s → slice_get s.infos i ≡ Some info → info.proc < length p.procs
proc_within p s i info fits is_info =
    let v = program_view p in
    let within : i < length s.infos = slice_get_within s.infos i info is_info in
    let same : length s.infos ≡ length s.runs = fits.kept.runs in
    let run = some_at s.runs i (omega arith) in
    let inv = fits.well_formed.invocations i (inv_view v (calls_view s.history) info run.0) (viewed_at v s i info run.0 is_info run.1) in
    decl_from p info.proc inv.proc inv.is

pub proc_at : (p : Program) (n : ℕ) (decl : ProcDecl) → slice_get p.procs n ≡ Some decl → slice_get (program_view p).procs n ≡ Some (proc_view decl)
proc_at p n decl is = slice_get-map proc_view p.procs n ∙ ap (λ o. option_map proc_view o) is

pub has_space : (p : Program) (n : ℕ) (decl : ProcDecl) → HasRoom (program_view p) → slice_get p.procs n ≡ Some decl → size (stmts_view decl.body) < 18446744073709551615
has_space p n decl room is = room n (proc_view decl) (proc_at p n decl is)

-- what comes next at the point of an invocation
pub spot_is : (p : Program) (s : State) (i : ℕ) (info : Info) (run : Run) (decl : ProcDecl)
    → slice_get s.infos i ≡ Some info → slice_get s.runs i ≡ Some run → slice_get p.procs info.proc ≡ Some decl
    → IsSpot (program_view p) s i (spot_in (stmts_view decl.body) 0 run.at)
spot_is p s i info run decl is_info is_run is_decl = record {
  is = λ inv q at_i at_q.
      let v = program_view p in
      let same : inv_view v (calls_view s.history) info run ≡ inv = one_found (slice_get (state_view v s).invocations i) _ _ (viewed_at v s i info run is_info is_run) at_i in
      let of_info : slice_get v.procs info.proc ≡ Some q = ap (λ (inv : seen.Invocation). slice_get v.procs inv.proc) same ∙ at_q in
      let proc : proc_view decl ≡ q = one_found (slice_get v.procs info.proc) _ _ (proc_at p info.proc decl is_decl) of_info in
      ap (λ (inv : seen.Invocation). inv.left) (sym same)
      ∙ ap (λ o. left_of o run.at) of_info
      ∙ subst (λ q. left_of (Some q) run.at ≡ goes_on (left_of (Some q)) (spot_in (stmts_view decl.body) 0 run.at) (Return q.end None)) proc
      (whole (stmts_view decl.body) (Return decl.end None) run.at);
}

-- what is told of the code at a spot holds of what the invocation has left
pub left_by : {X : Type 0} (p : Program) (s : State) (i : ℕ) (spot : Option Spot) (f : Code → X) (g : (ℕ → Code) → X) → Fits p s → IsSpot (program_view p) s i spot
    → ((left : ℕ → Code) (end : Span) → f (goes_on left spot (Return end None)) ≡ g left)
    → (inv : seen.Invocation) → slice_get (state_view (program_view p) s).invocations i ≡ Some inv → f inv.left ≡ g (left_of (slice_get (program_view p).procs inv.proc))
left_by p s i spot f g fits is told inv at_inv =
    let of_proc = fits.well_formed.invocations i inv at_inv in
    ap f (is.is inv of_proc.proc at_inv of_proc.is) ∙ told (left_of (Some of_proc.proc)) of_proc.proc.end ∙ ap (λ o. g (left_of o)) (sym of_proc.is)

pub left_at : {X : Type 0} (p : Program) (s : State) (i : ℕ) (spot : Option Spot) (f : Code → X) (x : X) → Fits p s → i < length s.infos → IsSpot (program_view p) s i spot
    → ((left : ℕ → Code) (end : Span) → f (goes_on left spot (Return end None)) ≡ x)
    → option_map (λ (inv : seen.Invocation). f inv.left) (slice_get (state_view (program_view p) s).invocations i) ≡ Some x
left_at p s i spot f x fits lt is told =
    let same : length s.infos ≡ length s.runs = fits.kept.runs in
    let there = viewed (program_view p) s i same (omega arith) in
    ap (option_map (λ (inv : seen.Invocation). f inv.left)) there.is
    ∙ ap (λ x. Some x) (left_by p s i spot f (λ left. x) fits is told (inv_view (program_view p) (calls_view s.history) there.info there.run) there.is)

pub next_is_at : (p : Program) (s : State) (i : ℕ) (info : Info) (run : Run) (decl : ProcDecl)
    → slice_get s.infos i ≡ Some info → slice_get s.runs i ≡ Some run → slice_get p.procs info.proc ≡ Some decl
    → option_map (λ (inv : seen.Invocation). spec.next_action inv.left) (slice_get (state_view (program_view p) s).invocations i)
    ≡ Some (spec.next_action (codes_at (stmts_view decl.body) run.at (Return decl.end None)))
next_is_at p s i info run decl is_info is_run is_decl =
    ap (option_map (λ (inv : seen.Invocation). spec.next_action inv.left)) (viewed_at (program_view p) s i info run is_info is_run)
    ∙ ap (λ o. Some (spec.next_action (left_of o run.at))) (proc_at p info.proc decl is_decl)

-- # Room for points

proc_here : (p : Program) (procs : List ProcDecl) (i : ℕ) (q : ProcDecl) → procs ≡ p.procs → i < length procs → q ≡ get_or procs i q → slice_get p.procs i ≡ Some q
proc_here p procs i q same lt is = subst (λ xs. slice_get xs i ≡ Some q) same (slice_get_read procs (length procs) i q refl lt is)

body_size : (q : ProcDecl) (body : List Stmt) (n : ℕ) → body ≡ q.body → n ≡ min (size (stmts_view body)) 18446744073709551615 → n ≡ min (size (stmts_view q.body)) 18446744073709551615
body_size q body n same is = is ∙ ap (λ (xs : List Stmt). min (size (stmts_view xs)) 18446744073709551615) same

-- a procedure has as many points as can be told apart
pub no_room : (p : Program) (procs : List ProcDecl) (i : ℕ) (q : ProcDecl) (body : List Stmt) (n : ℕ) → procs ≡ p.procs → i < length procs → q ≡ get_or procs i q
    → body ≡ q.body → n ≡ min (size (stmts_view body)) 18446744073709551615 → n ≡ 18446744073709551615 → HasRoom (program_view p) → ⊥
no_room p procs i q body n same lt is whole sized full room =
    let low : size (stmts_view q.body) < 18446744073709551615 = has_space p i q room (proc_here p procs i q same lt is) in
    let capped : n ≡ min (size (stmts_view q.body)) 18446744073709551615 = body_size q body n whole sized in
    absurd (omega arith)

-- the procedures before one have room, and it has
pub room_more : (p : Program) (procs : List ProcDecl) (i : ℕ) (q : ProcDecl) (body : List Stmt) (n : ℕ) → procs ≡ p.procs → i < length procs → q ≡ get_or procs i q
    → body ≡ q.body → n ≡ min (size (stmts_view body)) 18446744073709551615 → (n ≡ 18446744073709551615 → ⊥)
    → ((k : ℕ) (other : Proc) → k < i → slice_get (program_view p).procs k ≡ Some other → size other.body < 18446744073709551615)
    → (k : ℕ) (other : Proc) → k < i + 1 → slice_get (program_view p).procs k ≡ Some other → size other.body < 18446744073709551615
room_more p procs i q body n same lt is whole sized less before k other low at_k =
    elim (cases_eq k i) [
      | inl here ↦
          let at_i : slice_get (program_view p).procs i ≡ Some (proc_view q) = proc_at p i q (proc_here p procs i q same lt is) in
          let one : proc_view q ≡ other = one_found (slice_get (program_view p).procs i) (proc_view q) other at_i (subst (λ m. slice_get (program_view p).procs m ≡ Some other) here at_k) in
          let capped : n ≡ min (size (stmts_view q.body)) 18446744073709551615 = body_size q body n whole sized in
          let more : n ≡ 18446744073709551615 → ⊥ = less in
          let fine : size (stmts_view q.body) < 18446744073709551615 = elim (cases_lt (size (stmts_view q.body)) 18446744073709551615) [ inl lt ↦ lt | inr le ↦ absurd (more (omega arith)) ] in
          subst (λ (o : Proc). size o.body < 18446744073709551615) one fine
      | inr apart ↦ before k other (omega arith) at_k
    ]

-- all procedures have room
pub all_room : (p : Program) (procs : List ProcDecl) (i : ℕ) → procs ≡ p.procs → length procs ≤ i
    → ((k : ℕ) (other : Proc) → k < i → slice_get (program_view p).procs k ≡ Some other → size other.body < 18446744073709551615) → HasRoom (program_view p)
all_room p procs i same end before n q at_n =
    let within : n < length p.procs = decl_from p n q at_n in
    let len : length procs ≡ length p.procs = ap length same in
    before n q (omega arith) at_n

-- # What an invocation does next, if it is running

standing_is : (standing : stood.Standing) (outcome : Outcome) → spec.is_running (standing_view standing outcome) ≡ is_running standing
standing_is stand.Running outcome = refl
standing_is stand.Returned outcome = refl
standing_is stand.Failed outcome = refl

-- an invocation of the definitions, with whether it is running
pub record Standing (p : Program) (s : State) (i : ℕ) (runs : Bool) : Type 0 where
  pub inv : seen.Invocation
  pub is : slice_get (state_view (program_view p) s).invocations i ≡ Some inv
  pub runs_so : spec.is_running inv.standing ≡ runs

pub stands : (p : Program) (s : State) (i : ℕ) (runs : Bool) → Fits p s → i < length s.runs → option_map (λ (run : Run). is_running run.standing) (slice_get s.runs i) ≡ Some runs → Standing p s i runs
stands p s i runs fits lt told =
    let there = viewed (program_view p) s i fits.kept.runs lt in
    let so : is_running there.run.standing ≡ runs = one_found (option_map (λ (run : Run). is_running run.standing) (slice_get s.runs i)) (is_running there.run.standing) runs (ap (option_map (λ (run : Run). is_running run.standing)) there.is_run) told in
    record {
      inv = inv_view (program_view p) (calls_view s.history) there.info there.run;
      is = there.is;
      runs_so = standing_is there.run.standing there.info.outcome ∙ so;
    }

-- what is told of an invocation's code
pub told_of : {X : Type 0} (p : Program) (s : State) (i : ℕ) (f : Code → X) (x : X) (inv : seen.Invocation) → slice_get (state_view (program_view p) s).invocations i ≡ Some inv
    → option_map (λ (inv : seen.Invocation). f inv.left) (slice_get (state_view (program_view p) s).invocations i) ≡ Some x → f inv.left ≡ x
told_of p s i f x inv is told =
    one_found (option_map (λ (inv : seen.Invocation). f inv.left) (slice_get (state_view (program_view p) s).invocations i)) (f inv.left) x (ap (option_map (λ (inv : seen.Invocation). f inv.left)) is) told

pub next_runs : (p : Program) (s : State) (i : ℕ) (x : seen.Action) → Standing p s i true
    → option_map (λ (inv : seen.Invocation). spec.next_action inv.left) (slice_get (state_view (program_view p) s).invocations i) ≡ Some x → Some x ≡ next (state_view (program_view p) s) i
next_runs p s i x it told =
    let f : Code → seen.Action = spec.next_action in
    sym (ap (λ a. Some a) (told_of p s i f x it.inv it.is told))
    ∙ sym (ap (λ b. if b then Some (spec.next_action it.inv.left) else None) it.runs_so)
    ∙ sym (ap (option_and_then next_inv) it.is)

pub next_ended : (p : Program) (s : State) (i : ℕ) → Standing p s i false → None ≡ next (state_view (program_view p) s) i
next_ended p s i it = sym (ap (λ b. if b then Some (spec.next_action it.inv.left) else None) it.runs_so) ∙ sym (ap (option_and_then next_inv) it.is)

pub new_runs : (p : Program) (s : State) (i : ℕ) (x : Option ℕ) → Standing p s i true
    → option_map (λ (inv : seen.Invocation). new_left inv.left) (slice_get (state_view (program_view p) s).invocations i) ≡ Some x → x ≡ new_type (state_view (program_view p) s) i
new_runs p s i x it told =
    sym (told_of p s i new_left x it.inv it.is told)
    ∙ sym (ap (λ b. if b then new_left it.inv.left else None) it.runs_so)
    ∙ sym (ap (option_and_then new_inv) it.is)

pub new_ended : (p : Program) (s : State) (i : ℕ) → Standing p s i false → None ≡ new_type (state_view (program_view p) s) i
new_ended p s i it = sym (ap (λ b. if b then new_left it.inv.left else None) it.runs_so) ∙ sym (ap (option_and_then new_inv) it.is)

-- # The points of procedures

abbrev pub points_of : Proc → List points.Place
points_of q = block_places q.body 0 None

pub places_within : (p : Program) (s : State) (i : ℕ) (info : Info) → Fits p s → slice_get s.infos i ≡ Some info → info.proc < length s.places
places_within p s i info fits is_info =
    let within : info.proc < length p.procs = proc_within p s i info fits is_info in
    let procs : length (map proc_view p.procs) ≡ length p.procs = length-map p.procs proc_view in
    let left : length (map (map place_view) s.places) ≡ length s.places = length-map s.places (map place_view) in
    let right : length (map points_of (map proc_view p.procs)) ≡ length (map proc_view p.procs) = length-map (map proc_view p.procs) points_of in
    let same : length (map (map place_view) s.places) ≡ length (map points_of (map proc_view p.procs)) = ap length fits.places in
    omega arith

placed : (p : Program) (s : State) (n : ℕ) (decl : ProcDecl) (places : List Place) → Fits p s → slice_get p.procs n ≡ Some decl → slice_get s.places n ≡ Some places
    → map place_view places ≡ block_places (stmts_view decl.body) 0 None
placed p s n decl places fits is_decl is_places =
    let here : slice_get (map (map place_view) s.places) n ≡ Some (map place_view places) = slice_get-map (map place_view) s.places n ∙ ap (λ o. option_map (map place_view) o) is_places in
    let there : slice_get (map points_of (program_view p).procs) n ≡ Some (points_of (proc_view decl))
    = slice_get-map points_of (program_view p).procs n ∙ ap (λ o. option_map points_of o) (proc_at p n decl is_decl) in
    one_found (slice_get (map points_of (program_view p).procs) n) (map place_view places) (points_of (proc_view decl)) (ap (λ xs. slice_get xs n) (sym fits.places) ∙ here) there

-- what the list of its procedure's points has at an invocation's point
pub record Placed (p : Program) (s : State) (i : ℕ) (info : Info) (run : Run) (spot : Option Spot) : Type 0 where
  pub decl : ProcDecl
  pub is : slice_get p.procs info.proc ≡ Some decl
  pub spot_so : spot ≡ spot_in (stmts_view decl.body) 0 run.at

pub is_placed : (p : Program) (s : State) (i : ℕ) (info : Info) (run : Run) (places : List Place) (spot : Option Spot) → Fits p s
    → slice_get s.infos i ≡ Some info → slice_get s.places info.proc ≡ Some places → spot ≡ look (map place_view places) run.at → Placed p s i info run spot
is_placed p s i info run places spot fits is_info is_places so =
    let decl = some_at p.procs info.proc (proc_within p s i info fits is_info) in
    record {
      decl = decl.0;
      is = decl.1;
      spot_so = so ∙ ap (λ xs. look xs run.at) (placed p s info.proc decl.0 places fits decl.1 is_places) ∙ (body_is (stmts_view decl.0.body) run.at).0;
    }

pub is_told : (p : Program) (s : State) (i : ℕ) (info : Info) (run : Run) (places : List Place) (spot : Option Spot) → Fits p s
    → slice_get s.infos i ≡ Some info → slice_get s.places info.proc ≡ Some places → spot ≡ look (map place_view places) run.at → Tells (map place_view places) spot
is_told p s i info run places spot fits is_info is_places so =
    let it = is_placed p s i info run places spot fits is_info is_places so in
    subst (λ xs. Tells xs spot) (sym (placed p s info.proc it.decl places fits it.is is_places))
    (subst (Tells (block_places (stmts_view it.decl.body) 0 None)) (sym it.spot_so) (body_is (stmts_view it.decl.body) run.at).1)

pub body_room : (p : Program) (procs : List ProcDecl) (i : ℕ) (q : ProcDecl) (body : List Stmt) → procs ≡ p.procs → i < length procs → q ≡ get_or procs i q
    → body ≡ q.body → HasRoom (program_view p) → size (stmts_view body) < 18446744073709551615
body_room p procs i q body same lt is whole room =
    subst (λ (xs : List Stmt). size (stmts_view xs) < 18446744073709551615) (sym whole) (has_space p i q room (proc_here p procs i q same lt is))
