use Rattle.std.proofs.Common.{◌≡◌, ◌<◌, List, length, sym, subst, arith}
use Rattle.rp_lang.specs.declared.event.Event.TheVariants as event
use Rattle.event_machine.specs.States.{Fail}
use Rattle.machine_state.specs.declared.state.Run.{Run}
use Rattle.machine_state.specs.declared.state.State.{State}
use Rattle.machine_state.proofs.StateLemmas.{some_at}
use Rattle.machine_effects.specs.Steps.{Does}
use Rattle.machine_effects.proofs.EffectLemmas.{fail_does}
use Rattle.machine_effects.proofs.effect.fail.Goals as goal

pub returns : goal.returns
returns c = λ p run fits at_run running.
    let s : State = c.args.s.now in
    let same : length s.infos ≡ length s.runs = fits.kept.runs in
    let within : c.args.i < length s.infos = omega (arith, c.requires.within) in
    let info = some_at s.infos c.args.i within in
    subst (λ (rs : List Run). Does p s (Fail c.args.i) (record s { runs = rs }) event.Moved) (sym (c.stand.ensures run at_run)) (fail_does p s c.args.i info.0 run fits info.1 at_run running)
