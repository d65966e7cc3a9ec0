-- What effects ask, of a label that isn't refused.
use Rattle.std.proofs.Common.{◌≡◌, ℕ, zero, suc, ◌<◌, true, false, ◌||◌, nat_eq, nat_lt, refl, sym, ◌∙◌, ap, arith, List, [], ◌∷◌, length, get_or, Option, Some, None, slice_get, All}
use Rattle.std.specs.Prelude.{option_and_then}
use Rattle.std.specs.Option.{option_map_or}
use Rattle.std.proofs.lemmas.Bool.{true≢false, eq-eqb, ltb-true}
use Rattle.std.proofs.Math.Bool.{or_comm}
use Rattle.rp_value.specs.declared.tables.Ty.TheVariants as ty
use Rattle.rp_value.specs.Values as val
use Rattle.rp_value.specs.Values.{Val}
use Rattle.rp_lang.specs.Programs.{Prog}
use Rattle.rp_lang.specs.declared.program.Program.{Program}
use Rattle.rp_lang.specs.ProgramView.{program_view}
use Rattle.crdt_defs.specs.Atoms.{ints_fit}
use Rattle.crdt_defs.specs.Calls.{calls_view}
use Rattle.crdt_defs.specs.Fitting.{fits}
use Rattle.crdt_defs.specs.Snapshots.{bit}
use Rattle.crdt_truth.specs.declared.reading.Outcome.{Outcome}
use Rattle.event_machine.specs.Code as left
use Rattle.event_machine.specs.Code.{Code}
use Rattle.event_machine.specs.States as seen
use Rattle.event_machine.specs.Machine as spec
use Rattle.event_machine.proofs.MoveLemmas.{free, unless-none, running-at, sees-ok}
use Rattle.event_machine.proofs.SafeLemmas.{none_applies}
use Rattle.machine_reads.specs.Reads.{Viewed}
use Rattle.machine_state.specs.declared.state.Run.{Run}
use Rattle.machine_state.specs.declared.state.State.{State}
use Rattle.machine_state.specs.declared.state.Standing as stood
use Rattle.machine_state.specs.declared.state.Standing.TheVariants as stand
use Rattle.machine_state.specs.Accessors.{is_running}
use Rattle.machine_state.specs.Fits.{Fits}
use Rattle.machine_state.specs.StateView.{inv_view, standing_view, state_view}
use Rattle.machine_state.proofs.StateLemmas.{invs_length, some_at, viewed_at, tx_committed}

-- the label isn't refused at the state that is seen
abbrev pub IsFree : Program → State → seen.Label → Type 0
IsFree p s label = spec.refusal (program_view p) (state_view (program_view p) s) label ≡ None

-- # The named invocation

pub there_free : (p : Program) (s : State) (label : seen.Label) (i : ℕ) → Fits p s → IsFree p s label → spec.named label ≡ Some i → i < length s.infos
there_free p s label i fit is_free named =
    let v = program_view p in
    let sv = state_view v s in
    let same : length s.infos ≡ length s.runs = fit.kept.runs in
    let count : length sv.invocations ≡ length s.runs = invs_length v (calls_view s.history) s.infos s.runs same in
    let there : spec.unless (nat_lt i (length sv.invocations)) (seen.NoInvocation i) ≡ None =
    ap (option_and_then (λ i. spec.unless (nat_lt i (length sv.invocations)) (seen.NoInvocation i))) (sym named) ∙ (free v sv label is_free).there in
    let lt : i < length sv.invocations = ltb-true i (length sv.invocations) (unless-none (nat_lt i (length sv.invocations)) (seen.NoInvocation i) there) in
    omega arith

runs_so : (standing : stood.Standing) (outcome : Outcome) → standing_view standing outcome ≡ seen.Running → is_running standing ≡ true
runs_so stand.Running outcome is = refl
runs_so stand.Returned outcome is = cc
runs_so stand.Failed outcome is = cc

pub running_free : (p : Program) (s : State) (label : seen.Label) (i : ℕ) → Fits p s → IsFree p s label → spec.named label ≡ Some i
    → (run : Run) → slice_get s.runs i ≡ Some run → is_running run.standing ≡ true
running_free p s label i fit is_free named run at_run =
    let v = program_view p in
    let sv = state_view v s in
    let within : i < length s.infos = there_free p s label i fit is_free named in
    let info = some_at s.infos i within in
    let inv = inv_view v (calls_view s.history) info.0 run in
    let ready : option_and_then (λ (inv : seen.Invocation). spec.unless (spec.is_running inv.standing) (seen.NotRunning i)) (slice_get sv.invocations i) ≡ None =
    ap (option_and_then (λ i. option_and_then (λ (inv : seen.Invocation). spec.unless (spec.is_running inv.standing) (seen.NotRunning i)) (slice_get sv.invocations i))) (sym named)
    ∙ (free v sv label is_free).stands_ready in
    runs_so run.standing info.0.outcome (running-at sv i inv (viewed_at v s i info.0 run info.1 at_run) ready)

-- # A return

same_return : (a : seen.Action) → spec.is_same seen.ToReturn a ≡ true → a ≡ seen.ToReturn
same_return seen.ToBegin is = absurd (true≢false (sym is))
same_return seen.ToOp is = absurd (true≢false (sym is))
same_return seen.ToLocal is = absurd (true≢false (sym is))
same_return seen.ToNew is = absurd (true≢false (sym is))
same_return seen.ToCommit is = absurd (true≢false (sym is))
same_return seen.ToReturn is = refl

pub point_free : (p : Program) (s : State) (i : ℕ) → IsFree p s (seen.Return i) → (inv : seen.Invocation) → Viewed p s i inv → spec.next_action inv.left ≡ seen.ToReturn
point_free p s i is_free inv at =
    let sv = state_view (program_view p) s in
    let test : seen.Invocation → Option seen.Why = λ inv. spec.unless (spec.is_same seen.ToReturn (spec.next_action inv.left)) (seen.WrongPoint (spec.next_action inv.left)) in
    let right : test inv ≡ None = ap (option_and_then test) (sym at) ∙ (none_applies (spec.refusals (program_view p) sv (seen.Return i)) is_free).1.1.0 in
    same_return (spec.next_action inv.left) (unless-none (spec.is_same seen.ToReturn (spec.next_action inv.left)) (seen.WrongPoint (spec.next_action inv.left)) right)

-- # Transactions that a Begin sees

is_in_at : (xs : List ℕ) (k d : ℕ) → k < length xs → spec.is_in xs (get_or xs k d) ≡ true
is_in_at [] k d lt = absurd (omega arith)
is_in_at (x ∷ xs) zero d lt = ap (λ b. b || spec.is_in xs x) (eq-eqb x x refl)
is_in_at (x ∷ xs) (suc k) d lt =
    or_comm (nat_eq x (get_or xs k d)) (spec.is_in xs (get_or xs k d)) ∙ ap (λ b. b || nat_eq x (get_or xs k d)) (is_in_at xs k d (omega arith))

pub committed_free : (p : Program) (s : State) (i stamp : ℕ) (sees : List ℕ) → Fits p s → IsFree p s (seen.Begin i stamp sees) → All (λ tx. bit s.committed tx ≡ true) sees
committed_free p s i stamp sees fit is_free = λ k d lt.
    let v = program_view p in
    let sv = state_view v s in
    let label = seen.Begin i stamp sees in
    let none = free v sv label is_free in
    let sees_so = sees-ok sv sees (spec.earlier_view sv label) fit.well_formed.history none.all_committed none.all_closed in
    let tx = get_or sees k d in
    let found = sees_so.committed tx (is_in_at sees k d lt) in
    sym (tx_committed s.owners s.committed tx fit.kept.txs)
    ∙ ap (λ o. option_map_or (λ (t : seen.Tx). t.committed) o false) found.1
    ∙ found.2

-- # A new identifier

atom_ints : (p : Prog) (of : ℕ) (v : Val) → fits p (ty.Atom of) v ≡ true → ints_fit v ≡ true
atom_ints p of (val.Int n) is = absurd (true≢false (sym is))
atom_ints p of (val.Str bytes) is = refl
atom_ints p of (val.Atom t n) is = refl
atom_ints p of (val.Con con args) is = absurd (true≢false (sym is))
atom_ints p of (val.Call c) is = refl
atom_ints p of (val.Inv n) is = refl

asked_ints : (p : Prog) (v : Val) (code : Code) → spec.is_asked p v code ≡ true → ints_fit v ≡ true
asked_ints p v (left.Put slot e next) is = absurd (true≢false (sym is))
asked_ints p v (left.Decide slot f next) is = absurd (true≢false (sym is))
asked_ints p v (left.New slot of next) is = atom_ints p of v is
asked_ints p v (left.Operate op args next) is = absurd (true≢false (sym is))
asked_ints p v (left.Assert at f next) is = absurd (true≢false (sym is))
asked_ints p v (left.Choose f then_ else_) is = absurd (true≢false (sym is))
asked_ints p v (left.Match on arms) is = absurd (true≢false (sym is))
asked_ints p v (left.Begin next) is = absurd (true≢false (sym is))
asked_ints p v (left.End at next) is = absurd (true≢false (sym is))
asked_ints p v (left.Return at result) is = absurd (true≢false (sym is))

pub ints_free : (p : Program) (s : State) (i : ℕ) (id : Val) → Fits p s → IsFree p s (seen.New i id) → ints_fit id ≡ true
ints_free p s i id fit is_free =
    let v = program_view p in
    let sv = state_view v s in
    let label = seen.New i id in
    let within : i < length s.infos = there_free p s label i fit is_free refl in
    let same : length s.infos ≡ length s.runs = fit.kept.runs in
    let info = some_at s.infos i within in
    let run = some_at s.runs i (omega arith) in
    let inv = inv_view v (calls_view s.history) info.0 run.0 in
    let test : seen.Invocation → Option seen.Why = λ inv. spec.unless (spec.is_asked v id inv.left) seen.BadArgs in
    let fine : test inv ≡ None = ap (option_and_then test) (sym (viewed_at v s i info.0 run.0 info.1 run.1)) ∙ (free v sv label is_free).args_fit in
    asked_ints v id inv.left (unless-none (spec.is_asked v id inv.left) seen.BadArgs fine)
