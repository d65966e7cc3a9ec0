use Rattle.std.proofs.Common.{◌≡◌, List, [], length, slice_get, ◌∙◌, sym, subst, arith}
use Rattle.std.proofs.Common.{Err, rules}
use Rattle.std.specs.Prelude.{Result, IfErr}
use Rattle.rp_lang.specs.declared.event.Event.{Event}
use Rattle.machine_effects.specs.declared.error.StepErr.{StepErr}
use Rattle.rp_lang.specs.ProgramView.{program_view}
use Rattle.rp_lang.specs.Views.{expr_view}
use Rattle.rp_lang.specs.declared.event.Event.TheVariants as event
use Rattle.crdt_defs.specs.Atoms.{ints_fit}
use Rattle.crdt_defs.specs.Truths.{value}
use Rattle.event_machine.specs.Code as left
use Rattle.event_machine.specs.Code.{Code}
use Rattle.event_machine.specs.States as seen
use Rattle.machine_bounds.specs.NextWithin.{NextWithin}
use Rattle.machine_effects.specs.Steps.{Does, Stops}
use Rattle.machine_locals.proofs.LocalLemmas.{stood, limit_is, wide_limit, great_stops, put_does}
use Rattle.machine_reads.specs.Reads.{read_at}
use Rattle.machine_state.specs.declared.state.Run.{Run}
use Rattle.machine_state.specs.declared.state.State.{State}
use Rattle.machine_state.specs.StateView.{left_of}
use Rattle.machine_locals.proofs.locals.put.Goals as goal

pub value_at-requires-clause-bounded : goal.value_at-requires-clause-bounded
value_at-requires-clause-bounded c = λ inv at.
    subst (λ (code : Code). NextWithin (read_at c.args.p.now c.args.s.now inv) code) (c.requires.next inv at) (c.next_is_within.ensures inv at)

pub assign-requires : goal.assign-requires
assign-requires c =
    let same : length c.args.s.now.infos ≡ length c.args.s.now.runs = c.requires.fits.kept.runs in
    omega (arith, c.requires.within)

pub returns-in_err-value-clause-err : goal.returns-in_err-value-clause-err
returns-in_err-value-clause-err c =
    let p = c.args.p.now in
    let s : State = c.args.s.now in
    let i = c.args.i in
    let e = expr_view c.args.e.now in
    let same : c.from_residual.result ≡ Err c.in_err-value.field-0.0 = search (rules, c.from_residual.ensures) in
    subst (λ (o : Result Event StepErr). IfErr o (λ why. Stops p s (seen.Local i) s why)) (sym same)
    (great_stops p s i e _ c.requires.fits c.requires.within c.in_err-value.ensures.err
    (λ inv at wide.
    limit_is p s i inv (left.Put c.args.slot e (left_of (slice_get (program_view p).procs inv.proc) c.args.behind)) at (c.requires.next inv at)
    ∙ wide_limit (ints_fit (value (read_at p s inv) [] e)) wide))

pub returns-clause-ok : goal.returns-clause-ok
returns-clause-ok c =
    let p = c.args.p.now in
    let s : State = c.args.s.now in
    let i = c.args.i in
    let e = expr_view c.args.e.now in
    let it = stood p s i (λ at. left.Put c.args.slot e (at c.args.behind)) c.requires.fits c.requires.within c.requires.next in
    subst (λ (rs : List Run). Does p s (seen.Local i) (record s { runs = rs }) event.Moved) (sym (c.assign.ensures it.run it.is_run))
    (put_does p s i c.args.slot c.args.behind e c.in_ok-value.value c.requires.fits it (c.in_ok-value.ensures.value _ it.at) c.in_ok-value.ensures.ints)
