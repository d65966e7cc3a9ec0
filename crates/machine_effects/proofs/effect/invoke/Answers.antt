use Rattle.std.proofs.Common.{◌<◌, ◌≤◌, ◌++◌, [], ◌∷◌, List, map, length, refl, sym, subst, arith}
use Rattle.rp_value.specs.declared.value.Value.{Value}
use Rattle.rp_value.specs.ValueView.{value_view}
use Rattle.rp_lang.specs.declared.event.Event.TheVariants as event
use Rattle.event_machine.specs.States.{Invoke}
use Rattle.machine_state.specs.declared.state.Run.{Run}
use Rattle.machine_state.specs.declared.state.State.{State}
use Rattle.machine_effects.specs.Steps.{Does}
use Rattle.machine_effects.proofs.EffectLemmas.{first_info, first_run, invocations_limit, integer_limit, invoke_does}
use Rattle.machine_effects.proofs.effect.invoke.Goals as goal

pub returns-then-count-ge-MOST-clause-err : goal.returns-then-count-ge-MOST-clause-err
returns-then-count-ge-MOST-clause-err c =
    let s : State = c.args.s.now in
    let full : 16384 ≤ length s.infos = omega (arith, c.if-count-ge-MOST.true, c.count.ensures.length) in
    (refl, invocations_limit c.args.p.now s c.args.proc (map value_view c.args.args.now) c.requires.fits.kept.runs full)

pub returns-then-not-all_ints_fit-clause-err : goal.returns-then-not-all_ints_fit-clause-err
returns-then-not-all_ints_fit-clause-err c =
    let s : State = c.args.s.now in
    let room : length s.infos < 16384 = omega (arith, c.if-count-ge-MOST.false, c.count.ensures.length) in
    (refl, integer_limit c.args.p.now s c.args.proc (map value_view c.args.args.now) c.requires.fits.kept.runs room (sym c.if-not-all_ints_fit.ensures))

pub returns-clause-ok : goal.returns-clause-ok
returns-clause-ok c =
    let p = c.args.p.now in
    let s : State = c.args.s.now in
    let args : List Value = c.args.args.now in
    let q = c.get.result.now in
    let room : length s.infos < 16384 = omega (arith, c.if-count-ge-MOST.false, c.count.ensures.length) in
    subst (λ (new : State). Does p s (Invoke c.args.proc (map value_view args)) new event.Moved) (sym c.in_ok-begin_run.ensures.ok)
    (subst (λ (r : Run). Does p s (Invoke c.args.proc (map value_view args)) (record s { infos = s.infos ++ first_info c.args.proc c.in_ok-copy_values.field-0 ∷ []; runs = s.runs ++ r ∷ [] }) event.Moved) (sym c.in_ok-run.ensures)
    (subst (λ (xs : List Value). Does p s (Invoke c.args.proc (map value_view args)) (record s { infos = s.infos ++ first_info c.args.proc xs ∷ []; runs = s.runs ++ first_run q args ∷ [] }) event.Moved) (sym c.in_ok-copy_values.ensures)
    (invoke_does p s c.args.proc args q c.requires.fits c.get.ensures room (sym c.if-not-all_ints_fit.ensures))))
