-- What a return makes of a state, as the machine's effect says it.
use Rattle.std.proofs.Common.{◌≡◌, ℕ, zero, suc, ◌<◌, Bool, true, false, ◌||◌, ◌&&◌, refl, sym, ◌∙◌, ap, subst, arith, List, [], ◌∷◌, length, Option, Some, None, slice_get, slice_set}
use Rattle.std.specs.Prelude.{if◌then◌else◌, not, option_map}
use Rattle.std.specs.List.{list_any, list_all}
use Rattle.std.specs.Option.{option_map_or}
use Rattle.std.proofs.Math.Bool.{or_comm, or_assoc}
use Rattle.std.proofs.lemmas.List.{set-set}
use Rattle.std.proofs.lemmas.Option.{slice_get_within}
use Rattle.rp_span.specs.declared.Span.{Span}
use Rattle.rp_value.specs.Values.{Val}
use Rattle.rp_value.specs.declared.value.Value.{Value}
use Rattle.rp_lang.specs.Exprs.{Ex}
use Rattle.rp_lang.specs.declared.program.Program.{Program}
use Rattle.rp_lang.specs.declared.event.Event.TheVariants as event
use Rattle.rp_lang.specs.declared.limit.LimitName.{LimitName}
use Rattle.rp_lang.specs.declared.limit.LimitName.TheVariants as limit
use Rattle.rp_lang.specs.ProgramView.{program_view}
use Rattle.crdt_defs.specs.Atoms.{ints_fit}
use Rattle.crdt_defs.specs.Calls.{calls_view}
use Rattle.crdt_defs.specs.Truths.{value}
use Rattle.crdt_truth.specs.declared.reading.Info.{Info}
use Rattle.crdt_truth.specs.declared.reading.Outcome.{Outcome}
use Rattle.event_machine.specs.Code as left
use Rattle.event_machine.specs.Code.{Code}
use Rattle.event_machine.specs.States as seen
use Rattle.event_machine.specs.Machine as spec
use Rattle.machine_effects.specs.Limits.{limit_of, put_by_inv, put_next}
use Rattle.machine_effects.specs.Steps.{Tells, Does, Stops}
use Rattle.machine_effects.specs.declared.error.StepErr.{StepErr}
use Rattle.machine_effects.specs.declared.error.StepErr.TheVariants as err
use Rattle.machine_effects.specs.means.Lefts as lefts
use Rattle.machine_effects.proofs.EffectLemmas.{set_here}
use Rattle.machine_effects.proofs.KeptLemmas.{run_fits, kept_end}
use Rattle.machine_effects.proofs.ViewLemmas.{invs_set_run, invs_set_info}
use Rattle.machine_next.proofs.NextLemmas.{running_is}
use Rattle.machine_reads.specs.Reads.{Viewed, read_at, TooGreat}
use Rattle.machine_returns.specs.Known.{has}
use Rattle.machine_state.specs.declared.state.Run.{Run}
use Rattle.machine_state.specs.declared.state.State.{State}
use Rattle.machine_state.specs.declared.state.Standing.TheVariants as stand
use Rattle.machine_state.specs.Accessors.{has_ended, is_running}
use Rattle.machine_state.specs.Fits.{Fits}
use Rattle.machine_state.specs.StateView.{inv_view, invs_view, returned_view, left_of, state_view}
use Rattle.machine_state.proofs.StateLemmas.{nothing, one_found, viewed, viewed_at}

-- # What is next

-- a return is next
pub returns_by : (code : Code) → spec.next_action code ≡ seen.ToReturn → (at : Span) × (code ≡ left.Return at (lefts.result code))
returns_by (left.Put slot e next) is = cc
returns_by (left.Decide slot f next) is = cc
returns_by (left.New slot of next) is = cc
returns_by (left.Operate op args next) is = cc
returns_by (left.Assert at f next) is = cc
returns_by (left.Choose f then_ else_) is = cc
returns_by (left.Match on arms) is = cc
returns_by (left.Begin next) is = cc
returns_by (left.End at next) is = cc
returns_by (left.Return at result) is = (at, refl)

-- a return of a value is next
pub gives_by : (code : Code) (e : Ex) → lefts.result code ≡ Some e → (at : Span) × (code ≡ left.Return at (Some e))
gives_by (left.Put slot x next) e is = absurd (nothing e is)
gives_by (left.Decide slot f next) e is = absurd (nothing e is)
gives_by (left.New slot of next) e is = absurd (nothing e is)
gives_by (left.Operate op args next) e is = absurd (nothing e is)
gives_by (left.Assert at f next) e is = absurd (nothing e is)
gives_by (left.Choose f then_ else_) e is = absurd (nothing e is)
gives_by (left.Match on arms) e is = absurd (nothing e is)
gives_by (left.Begin next) e is = absurd (nothing e is)
gives_by (left.End at next) e is = absurd (nothing e is)
gives_by (left.Return at result) e is = (at, ap (left.Return at) is)

-- # Limits

pub return_limit : (p : Program) (s : State) (i : ℕ) (inv : seen.Invocation) (code : Code) (fit : Bool) → Viewed p s i inv → inv.left ≡ code
    → list_all ints_fit (put_next (read_at p s inv) (seen.Return i) code) ≡ fit
    → limit_of (program_view p) (state_view (program_view p) s) (seen.Return i) ≡ (if not fit then Some limit.Integer else None)
return_limit p s i inv code fit at is fits =
    let v = program_view p in
    let sv = state_view v s in
    let of : List Val → Option LimitName = λ vs. if not (list_all ints_fit vs) then Some limit.Integer else None in
    ap (λ o. of (put_by_inv v sv (seen.Return i) o)) at
    ∙ ap (λ c. of (put_next (read_at p s inv) (seen.Return i) c)) is
    ∙ ap (λ b. if not b then Some limit.Integer else None) fits

pub one_fits : (b c : Bool) → b ≡ c → (b && true) ≡ c
one_fits true c is = is
one_fits false c is = is

-- the value that is returned has an integer that isn't of 64 bits
pub great_stops : (p : Program) (s : State) (i : ℕ) (e : Ex) (why : StepErr) → Fits p s → i < length s.infos → TooGreat p s i e why
    → ((inv : seen.Invocation) → Viewed p s i inv → lefts.result inv.left ≡ Some e) → Stops p s (seen.Return i) s why
great_stops p s i e (err.Limit name) fits within h gives =
    let same : length s.infos ≡ length s.runs = fits.kept.runs in
    let it = viewed (program_view p) s i same (omega arith) in
    let inv = inv_view (program_view p) (calls_view s.history) it.info it.run in
    let code = gives_by inv.left e (gives inv it.is) in (
      refl,
      return_limit p s i inv (left.Return code.0 (Some e)) false it.is code.1 (one_fits (ints_fit (value (read_at p s inv) [] e)) false (h.1 inv it.is))
          ∙ ap (λ n. Some n) (sym h.0),
    )
great_stops p s i e (err.Refused why) fits within h gives = absurd h
great_stops p s i e err.Memory fits within h gives = (refl, tt)

-- # The effect

-- one that doesn't pass is replaced
any_more : {A : Type 0} (f : A → Bool) (xs : List A) (i : ℕ) (x y : A) → slice_get xs i ≡ Some x → f x ≡ false → list_any f (slice_set xs i y) ≡ (list_any f xs || f y)
any_more f [] i x y e none = absurd (nothing x e)
any_more f (z ∷ zs) zero x y e none =
    or_comm (f y) (list_any f zs)
    ∙ sym (ap (λ b. (b || list_any f zs) || f y) (ap f (one_found (Some z) z x refl e) ∙ none))
any_more f (z ∷ zs) (suc i) x y e none = ap (λ b. f z || b) (any_more f zs i x y e none) ∙ sym (or_assoc (f z) (list_any f zs) (f y))

return_by : (p : Program) (s : seen.State) (i : ℕ) (inv : seen.Invocation) (code : Code) (at : Span) (result : Option Ex) → code ≡ left.Return at result
    → spec.returns (program_view p) s i inv code ≡ spec.stands s i inv (seen.Returned (option_map (value (spec.at_invocation (program_view p) s inv) []) result))
return_by p s i inv code at result is = ap (spec.returns (program_view p) s i inv) is

-- the invocation with its outcome
abbrev pub ended : State → ℕ → Info → Run → Outcome → List Value → State
ended s i info run outcome known = record s {
  known = known;
  infos = slice_set s.infos i (record info { outcome = outcome });
  runs = slice_set s.runs i (record run { standing = stand.Returned });
}

pub return_does : (p : Program) (s : State) (i : ℕ) (info : Info) (run : Run) (outcome : Outcome) (known : List Value) (at : Span) (result : Option Ex) → Fits p s
    → slice_get s.infos i ≡ Some info → slice_get s.runs i ≡ Some run → is_running run.standing ≡ true
    → left_of (slice_get (program_view p).procs info.proc) run.at ≡ left.Return at result
    → has_ended outcome ≡ true
    → returned_view outcome ≡ option_map (value (read_at p s (inv_view (program_view p) (calls_view s.history) info run)) []) result
    → list_all ints_fit (put_next (read_at p s (inv_view (program_view p) (calls_view s.history) info run)) (seen.Return i) (left.Return at result)) ≡ true
    → ((x : Val) → has known x ≡ (has s.known x || spec.stands_in x (seen.Returned (returned_view outcome))))
    → Does p s (seen.Return i) (ended s i info run outcome known) event.Moved
return_does p s i info run outcome known at result fits is_info is_run running code ends gives fit knows =
    let v = program_view p in
    let sv = state_view v s in
    let calls = calls_view s.history in
    let inv = inv_view v calls info run in
    let new_info : Info = record info { outcome = outcome } in
    let new_run : Run = record run { standing = stand.Returned } in
    let new = inv_view v calls new_info new_run in
    let old = run_fits s i run fits.kept is_run in
    let at_inv = viewed_at v s i info run is_info is_run in
    let within : i < length s.infos = slice_get_within s.infos i info is_info in
    let invs : invs_view v calls (slice_set s.infos i new_info) (slice_set s.runs i new_run) ≡ slice_set sv.invocations i new =
    invs_set_run v calls (slice_set s.infos i new_info) s.runs i new_info new_run (set_here s.infos i new_info within)
    ∙ ap (λ is. slice_set is i new) (invs_set_info v calls s.infos s.runs i new_info run is_run)
    ∙ set-set sv.invocations i (inv_view v calls new_info run) new in
    let standing : seen.Standing = seen.Returned (option_map (value (read_at p s inv) []) result) in
    let effect : spec.effect v sv (seen.Return i) ≡ spec.stands sv i inv standing =
    ap (λ o. option_map_or (λ (inv : seen.Invocation). spec.returns v sv i inv inv.left) o (seen.Moved sv)) at_inv ∙ return_by p sv i inv inv.left at result code in
    let kept = kept_end s i new_info new_run fits.kept (record { ascending = old.ascending; committed = old.committed; later = old.later; ints = old.ints }) ends in
    record {
      within = return_limit p s i inv (left.Return at result) true at_inv code fit;
      tells = subst (λ answer. Tells v s answer (ended s i info run outcome known) event.Moved) (sym effect) (
        refl,
        ap (λ is. record sv { invocations = is }) invs
            ∙ ap (λ r. record sv { invocations = slice_set sv.invocations i (record inv { standing = seen.Returned r }) }) gives,
      );
      kept = record { few = kept.few; runs = kept.runs; txs = kept.txs; calls = kept.calls; ascending = kept.ascending; committed = kept.committed; later = kept.later; ints = kept.ints; told = kept.told };
      places = refl;
      known = λ x.
          let in_result : seen.Invocation → Bool = λ inv. spec.stands_in x inv.standing in
          let none : in_result inv ≡ false = ap (spec.stands_in x) (running_is run.standing info.outcome running) in
          knows x
          ∙ ap (λ b. b || in_result new) (fits.known x)
          ∙ sym (ap (list_any in_result) invs ∙ any_more in_result sv.invocations i inv new at_inv none);
    }
