use Rattle.std.proofs.Common.{◌≡◌, ◌<◌, ◌++◌, [], ◌∷◌, List, Some, length, slice_get, slice_set, ap, ◌∙◌, refl, sym, subst, arith}
use Rattle.std.proofs.lemmas.List.{length-set, set-set}
use Rattle.rp_value.specs.declared.value.Value.{Value}
use Rattle.rp_value.specs.ValueView.{value_view}
use Rattle.rp_lang.specs.ProgramView.{program_view}
use Rattle.rp_lang.specs.declared.event.Event.TheVariants as event
use Rattle.event_machine.specs.States.{New}
use Rattle.machine_state.specs.declared.state.Run.{Run}
use Rattle.machine_state.specs.declared.state.State.{State}
use Rattle.machine_state.specs.StateView.{left_of}
use Rattle.machine_state.proofs.StateLemmas.{some_at, viewed}
use Rattle.machine_effects.specs.Steps.{Does}
use Rattle.machine_effects.proofs.CodeLemmas.{new_some}
use Rattle.machine_effects.proofs.EffectLemmas.{make_nothing, set_here, put_on, make_does}
use Rattle.machine_effects.proofs.effect.make.Goals as goal

pub returns-in_default-clause-ok : goal.returns-in_default-clause-ok
returns-in_default-clause-ok c =
    let s : State = c.args.s.now in
    let same : length s.infos ≡ length s.runs = c.requires.fits.kept.runs in
    let within : c.args.i < length s.runs = omega (arith, c.requires.within) in
    let it = viewed (program_view c.args.p.now) s c.args.i same within in
    make_nothing c.args.p.now s c.args.i (value_view c.args.id.now) _ c.requires.fits it.is (sym (c.in_default.ensures _ it.is))

pub go_on-requires : goal.go_on-requires
go_on-requires c =
    let s : State = c.args.s.now in
    let same : length s.infos ≡ length s.runs = c.requires.fits.kept.runs in
    let within : c.args.i < length s.runs = omega (arith, c.requires.within) in
    let run = some_at s.runs c.args.i within in
    let len = ap length (c.put.ensures run.0 run.1) ∙ length-set s.runs c.args.i _ in
    omega (arith, len)

pub returns-clause-ok : goal.returns-clause-ok
returns-clause-ok c =
    let p = c.args.p.now in
    let s : State = c.args.s.now in
    let i = c.args.i in
    let same : length s.infos ≡ length s.runs = c.requires.fits.kept.runs in
    let within : i < length s.runs = omega (arith, c.requires.within) in
    let it = viewed (program_view p) s i same within in
    let run : Run = it.run in
    let slot = c.in-Some.slot in
    let at = c.in-Some.at in
    let next = left_of (slice_get (program_view p).procs it.info.proc) at in
    let makes = new_some _ (slot, next) (sym (c.in-Some.ensures _ it.is)) in
    let first : Value → Run = λ v. record run { slots = slice_set run.slots slot (Some v) } in
    let put : c.put.new.self ≡ slice_set s.runs i (first c.in_ok-value.value) = c.put.ensures run it.is_run in
    let at_put : slice_get c.put.new.self i ≡ Some (first c.in_ok-value.value) = ap (λ (rs : List Run). slice_get rs i) put ∙ set_here s.runs i (first c.in_ok-value.value) within in
    let gone : c.go_on.new.self ≡ slice_set s.runs i (put_on run slot c.in_ok-value.value at) =
    c.go_on.ensures (first c.in_ok-value.value) at_put
    ∙ ap (λ (rs : List Run). slice_set rs i (put_on run slot c.in_ok-value.value at)) put
    ∙ set-set s.runs i (first c.in_ok-value.value) (put_on run slot c.in_ok-value.value at) in
    let ids : c.push.new.self ≡ s.generated ++ c.args.id.now ∷ [] = c.in_ok-push.ensures.ok ∙ ap (λ (v : Value). s.generated ++ v ∷ []) c.in_ok-copy.ensures in
    let id : Value = c.args.id.now in
    subst (λ (rs : List Run). Does p s (New i (value_view id)) (record s { runs = rs; generated = c.push.new.self }) event.Moved) (sym gone)
    (subst (λ (v : Value). Does p s (New i (value_view id)) (record s { runs = slice_set s.runs i (put_on run slot v at); generated = c.push.new.self }) event.Moved) (sym c.in_ok-value.ensures)
    (subst (λ (g : List Value). Does p s (New i (value_view id)) (record s { runs = slice_set s.runs i (put_on run slot id at); generated = g }) event.Moved) (sym ids)
    (make_does p s i slot makes.0 at it.info run id next c.requires.fits it.is_info it.is_run c.requires.ints makes.1 refl)))
