use Rattle.std.proofs.Common.{◌≡◌, ◌<◌, true, Bool, List, length, slice_get, slice_set, refl, sym, subst, arith}
use Rattle.rp_lang.specs.ProgramView.{program_view}
use Rattle.rp_lang.specs.declared.event.Event.TheVariants as event
use Rattle.event_machine.specs.States.{Commit}
use Rattle.machine_state.specs.declared.state.Run.{Run}
use Rattle.machine_state.specs.declared.state.State.{State}
use Rattle.machine_state.specs.StateView.{left_of}
use Rattle.machine_state.proofs.StateLemmas.{some_at, viewed, viewed_at}
use Rattle.machine_effects.specs.Steps.{Does}
use Rattle.machine_effects.proofs.CodeLemmas.{ended_some}
use Rattle.machine_effects.proofs.EffectLemmas.{commit_nothing, commit_alone, tx_lt, commit_does}
use Rattle.machine_effects.proofs.effect.commit.Goals as goal

pub returns-in_default-clause-ok : goal.returns-in_default-clause-ok
returns-in_default-clause-ok c =
    let s : State = c.args.s.now in
    let same : length s.infos ≡ length s.runs = c.requires.fits.kept.runs in
    let within : c.args.i < length s.runs = omega (arith, c.requires.within) in
    let it = viewed (program_view c.args.p.now) s c.args.i same within in
    commit_nothing c.args.p.now s c.args.i _ c.requires.fits it.is (sym (c.in_default.ensures _ it.is))

pub returns-in_default-tx-clause-ok : goal.returns-in_default-tx-clause-ok
returns-in_default-tx-clause-ok c =
    let s : State = c.args.s.now in
    let info = some_at s.infos c.args.i c.requires.within in
    commit_alone c.args.p.now s c.args.i _ c.requires.fits (viewed_at (program_view c.args.p.now) s c.args.i info.0 c.get.result.now info.1 c.get.ensures) c.in_default-tx.is

pub set-requires : goal.set-requires
set-requires c =
    let s : State = c.args.s.now in
    let info = some_at s.infos c.args.i c.requires.within in
    record { within = tx_lt c.args.p.now s c.args.i c.in-Some-tx.tx info.0 c.get.result.now c.requires.fits info.1 c.get.ensures c.in-Some-tx.is }

pub returns-clause-ok : goal.returns-clause-ok
returns-clause-ok c =
    let p = c.args.p.now in
    let s : State = c.args.s.now in
    let i = c.args.i in
    let run : Run = c.get.result.now in
    let info = some_at s.infos i c.requires.within in
    let at_inv = viewed_at (program_view p) s i info.0 run info.1 c.get.ensures in
    let next = left_of (slice_get (program_view p).procs info.0.proc) c.in-Some.at in
    let ends = ended_some _ next (sym (c.in-Some.ensures _ at_inv)) in
    subst (λ (bits : List Bool). Does p s (Commit i) (record s { runs = c.close.new.self; committed = bits }) event.Moved) (sym c.set.ensures)
    (subst (λ (rs : List Run). Does p s (Commit i) (record s { runs = rs; committed = slice_set s.committed c.in-Some-tx.tx true }) event.Moved) (sym (c.in_ok-close.ensures.ok run c.get.ensures))
    (commit_does p s i c.in-Some-tx.tx c.in-Some.at info.0 run ends.0 next c.requires.fits info.1 c.get.ensures c.in-Some-tx.is ends.1 refl))
