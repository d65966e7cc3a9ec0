use Rattle.std.proofs.Common.{◌≡◌, ℕ, ◌<◌, ◌++◌, ◌||◌, [], ◌∷◌, Bool, false, List, Some, None, map, length, slice_get, slice_set, ap, ◌∙◌, refl, sym, subst, arith}
use Rattle.std.specs.List.{list_all}
use Rattle.rp_value.specs.declared.value.Value.{Value}
use Rattle.rp_value.specs.ValueView.{value_view}
use Rattle.rp_lang.specs.ProgramView.{program_view}
use Rattle.rp_lang.specs.declared.event.Event.TheVariants as event
use Rattle.crdt_defs.specs.declared.call.CallRec.{CallRec}
use Rattle.crdt_defs.specs.Atoms.{ints_fit}
use Rattle.crdt_defs.specs.Calls.{call_view, calls_view}
use Rattle.crdt_lib.proofs.HistoryLemmas.{seen_length}
use Rattle.event_machine.specs.Machine as spec
use Rattle.event_machine.specs.States.{Begin}
use Rattle.machine_state.specs.declared.state.Run.{Run}
use Rattle.machine_state.specs.declared.state.State.{State}
use Rattle.machine_state.specs.StateView.{left_of}
use Rattle.machine_state.proofs.StateLemmas.{viewed}
use Rattle.machine_effects.specs.Steps.{Does}
use Rattle.machine_effects.proofs.CodeLemmas.{begun_some}
use Rattle.machine_effects.proofs.EffectLemmas.{begin_nothing, past_low, reads_seen, marker, begin_does}
use Rattle.machine_effects.proofs.effect.begin.Goals as goal

pub returns-in_default-clause-ok : goal.returns-in_default-clause-ok
returns-in_default-clause-ok c =
    let s : State = c.args.s.now in
    let same : length s.infos ≡ length s.runs = c.requires.fits.kept.runs in
    let within : c.args.i < length s.runs = omega (arith, c.requires.within) in
    let room : length s.history < 16384 = omega (arith, c.if-len-ge-MOST.false, c.len.ensures.length) in
    let it = viewed (program_view c.args.p.now) s c.args.i same within in
    begin_nothing c.args.p.now s c.args.i c.args.stamp c.args.sees.now _ c.requires.fits room it.is (sym (c.in_default.ensures _ it.is))

pub open-requires : goal.open-requires
open-requires c =
    let s : State = c.args.s.now in
    let room : length s.history < 16384 = omega (arith, c.if-len-ge-MOST.false, c.len.ensures.length) in
    record {
      room = room;
      earlier = past_low _ (λ k. spec.calls_of (calls_view s.history) c.args.sees.now k || spec.own_calls (calls_view s.history) None k) (length (calls_view s.history)) (length s.history) c.in_ok-past.ensures.calls (seen_length s.history);
      ascending = c.in_ok-past.ensures.ascending;
      ints = ap (λ (xs : List Value). list_all ints_fit (map value_view xs)) c.new.ensures;
    }

pub returns-clause-ok : goal.returns-clause-ok
returns-clause-ok c =
    let p = c.args.p.now in
    let s : State = c.args.s.now in
    let i = c.args.i in
    let sees = c.args.sees.now in
    let at = c.in-Some.at in
    let calls = calls_view s.history in
    let same : length s.infos ≡ length s.runs = c.requires.fits.kept.runs in
    let within : i < length s.runs = omega (arith, c.requires.within) in
    let room : length s.history < 16384 = omega (arith, c.if-len-ge-MOST.false, c.len.ensures.length) in
    let it = viewed (program_view p) s i same within in
    let run : Run = it.run in
    let next = left_of (slice_get (program_view p).procs it.info.proc) at in
    let begins = begun_some _ next (sym (c.in-Some.ensures _ it.is)) in
    let call : CallRec = record { op = 0; args = c.new.result; inv = i; tx = c.count-tx.result; stamp = c.args.stamp; past = c.in_ok-past.past } in
    let opened : State = record s { owners = s.owners ++ i ∷ []; committed = s.committed ++ false ∷ []; history = s.history ++ call ∷ [] } in
    let is_open : c.open.new.self ≡ opened = c.in_ok-open.ensures.ok in
    let new : List ℕ → ℕ → Run = λ xs n. record run { seen = xs; tx = Some n; at = at } in
    let at_run : slice_get c.open.new.self.runs i ≡ Some run = ap (λ (o : State). slice_get o.runs i) is_open ∙ it.is_run in
    let past : c.in_ok-past.past ≡ spec.listed (spec.calls_of calls sees) (length calls) = c.in_ok-past.ensures.calls ∙ ap (λ (set : ℕ → Bool). spec.listed set (length calls)) (reads_seen calls sees) in
    let is_call : call_view call ≡ marker i (length s.owners) c.args.stamp calls sees =
    ap (λ (xs : List Value). call_view (record call { args = xs })) c.new.ensures
    ∙ ap (λ (n : ℕ). call_view (record call { args = []; tx = n })) c.count-tx.ensures.length
    ∙ ap (λ (xs : List ℕ). call_view (record call { args = []; tx = length s.owners; past = xs })) past in
    let target : Run → State = λ r. record opened { runs = slice_set s.runs i r } in
    subst (λ (rs : List Run). Does p s (Begin i c.args.stamp sees) (record c.open.new.self { runs = rs }) event.Moved) (sym (c.see.ensures run at_run))
    (subst (λ (o : State). Does p s (Begin i c.args.stamp sees) (record o { runs = slice_set o.runs i (new c.in_ok-seen.seen c.count-tx.result) }) event.Moved) (sym is_open)
    (subst (λ (xs : List ℕ). Does p s (Begin i c.args.stamp sees) (target (new xs c.count-tx.result)) event.Moved) (sym c.in_ok-seen.ensures)
    (subst (λ (n : ℕ). Does p s (Begin i c.args.stamp sees) (target (new sees n)) event.Moved) (sym c.count-tx.ensures.length)
    (begin_does p s i c.args.stamp at sees it.info run call next c.requires.fits it.is_info it.is_run room c.requires.ascending c.requires.committed begins refl is_call))))
