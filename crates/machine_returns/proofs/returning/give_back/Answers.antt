use Rattle.std.proofs.Common.{◌≡◌, ◌<◌, None, length, ap, ◌∙◌, refl, sym, subst, arith}
use Rattle.std.proofs.Math.Bool.{or-false}
use Rattle.rp_lang.specs.ProgramView.{program_view}
use Rattle.rp_lang.specs.declared.event.Event.TheVariants as event
use Rattle.crdt_defs.specs.Calls.{calls_view}
use Rattle.crdt_truth.specs.declared.reading.Outcome.TheVariants as out
use Rattle.event_machine.specs.Code as left
use Rattle.event_machine.specs.States as seen
use Rattle.machine_effects.specs.Steps.{Does}
use Rattle.machine_returns.specs.Known.{has}
use Rattle.machine_returns.proofs.ReturnLemmas.{returns_by, return_does}
use Rattle.machine_state.specs.declared.state.State.{State}
use Rattle.machine_state.specs.StateView.{inv_view}
use Rattle.machine_state.proofs.StateLemmas.{viewed}
use Rattle.machine_returns.proofs.returning.give_back.Goals as goal

pub give_value-requires-clause-gives : goal.give_value-requires-clause-gives
give_value-requires-clause-gives c = λ inv at. sym (c.in-Some.ensures inv at)

pub returns-in-None-clause-ok : goal.returns-in-None-clause-ok
returns-in-None-clause-ok c =
    let p = c.args.p.now in
    let s : State = c.args.s.now in
    let i = c.args.i in
    let same : length s.infos ≡ length s.runs = c.requires.fits.kept.runs in
    let within : i < length s.runs = omega (arith, c.requires.within) in
    let it = viewed (program_view p) s i same within in
    let inv = inv_view (program_view p) (calls_view s.history) it.info it.run in
    let code = returns_by inv.left (c.requires.point inv it.is) in
    let none = ap (left.Return code.0) (sym (c.in-None.ensures inv it.is)) in
    subst (λ (new : State). Does p s (seen.Return i) new event.Moved) (sym (c.give.ensures it.info it.run it.is_info it.is_run))
    (return_does p s i it.info it.run out.Returned s.known code.0 None c.requires.fits it.is_info it.is_run (c.requires.running it.run it.is_run) (code.1 ∙ none) refl refl refl
    (λ x. sym (or-false (has s.known x))))
