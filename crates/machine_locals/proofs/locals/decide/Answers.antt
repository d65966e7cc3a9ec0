use Rattle.std.proofs.Common.{◌≡◌, ℕ, List, length, slice_get, ◌∙◌, sym, subst, arith}
use Rattle.std.proofs.Common.{Err, rules}
use Rattle.std.specs.Prelude.{Result, IfErr}
use Rattle.rp_lang.specs.declared.event.Event.{Event}
use Rattle.machine_effects.specs.declared.error.StepErr.{StepErr}
use Rattle.rp_lang.specs.ProgramView.{program_view}
use Rattle.rp_lang.specs.Views.{formula_view}
use Rattle.rp_lang.specs.declared.event.Event.TheVariants as event
use Rattle.crdt_truth.specs.Breadths.{breadth}
use Rattle.event_machine.specs.Code as left
use Rattle.event_machine.specs.Code.{Code}
use Rattle.event_machine.specs.States as seen
use Rattle.machine_bounds.specs.NextWithin.{NextWithin}
use Rattle.machine_effects.specs.Steps.{Does, Stops}
use Rattle.machine_locals.proofs.LocalLemmas.{stood, limit_is, broad_limit, broad_stops, decide_does}
use Rattle.machine_reads.specs.Reads.{read_at}
use Rattle.machine_state.specs.declared.state.Run.{Run}
use Rattle.machine_state.specs.declared.state.State.{State}
use Rattle.machine_state.specs.StateView.{left_of}
use Rattle.machine_locals.proofs.locals.decide.Goals as goal

pub truth_at-requires-clause-bounded : goal.truth_at-requires-clause-bounded
truth_at-requires-clause-bounded c = λ inv at.
    subst (λ (code : Code). NextWithin (read_at c.args.p.now c.args.s.now inv) code) (c.requires.next inv at) (c.next_is_within.ensures inv at)

pub assign-requires : goal.assign-requires
assign-requires c =
    let same : length c.args.s.now.infos ≡ length c.args.s.now.runs = c.requires.fits.kept.runs in
    omega (arith, c.requires.within)

pub returns-in_err-holds-clause-err : goal.returns-in_err-holds-clause-err
returns-in_err-holds-clause-err c =
    let p = c.args.p.now in
    let s : State = c.args.s.now in
    let i = c.args.i in
    let f = formula_view c.args.f.now in
    let same : c.from_residual.result ≡ Err c.in_err-holds.field-0.0 = search (rules, c.from_residual.ensures) in
    subst (λ (o : Result Event StepErr). IfErr o (λ why. Stops p s (seen.Local i) s why)) (sym same)
    (broad_stops p s i f _ c.requires.fits c.requires.within c.in_err-holds.ensures.err
    (λ inv at wide.
    let from : ℕ → Code = left_of (slice_get (program_view p).procs inv.proc) in
    limit_is p s i inv (left.Decide c.args.slot f (from c.args.behind)) at (c.requires.next inv at)
    ∙ broad_limit (breadth (read_at p s inv).parts f) wide))

pub returns-clause-ok : goal.returns-clause-ok
returns-clause-ok c =
    let p = c.args.p.now in
    let s : State = c.args.s.now in
    let i = c.args.i in
    let f = formula_view c.args.f.now in
    let it = stood p s i (λ at. left.Decide c.args.slot f (at c.args.behind)) c.requires.fits c.requires.within c.requires.next in
    subst (λ (rs : List Run). Does p s (seen.Local i) (record s { runs = rs }) event.Moved) (sym (c.assign.ensures it.run it.is_run))
    (decide_does p s i c.args.slot c.args.behind f c.in_ok-holds.holds c.truth_value.result c.requires.fits it c.truth_value.ensures (c.in_ok-holds.ensures.truth _ it.at) (c.in_ok-holds.ensures.narrow _ it.at))
