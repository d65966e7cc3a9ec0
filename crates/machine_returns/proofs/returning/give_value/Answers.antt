use Rattle.std.proofs.Common.{true, ◌≡◌, ◌<◌, [], Some, length, ap, ◌∙◌, refl, sym, subst, arith}
use Rattle.std.proofs.Common.{Err, rules}
use Rattle.std.specs.Prelude.{Result, IfErr}
use Rattle.rp_lang.specs.declared.event.Event.{Event}
use Rattle.machine_effects.specs.declared.error.StepErr.{StepErr}
use Rattle.rp_value.specs.declared.value.Value.{Value}
use Rattle.rp_lang.specs.ProgramView.{program_view}
use Rattle.rp_lang.specs.Views.{expr_view}
use Rattle.rp_lang.specs.declared.event.Event.TheVariants as event
use Rattle.crdt_defs.specs.Atoms.{ints_fit}
use Rattle.crdt_defs.specs.Calls.{calls_view}
use Rattle.crdt_defs.specs.Truths.{value}
use Rattle.crdt_truth.specs.declared.reading.Outcome.TheVariants.{ReturnedWith}
use Rattle.event_machine.specs.Code.{Code}
use Rattle.event_machine.specs.States as seen
use Rattle.machine_bounds.specs.NextWithin.{NextWithin}
use Rattle.machine_effects.specs.Steps.{Does, Stops}
use Rattle.machine_reads.specs.Reads.{read_at}
use Rattle.machine_returns.proofs.ReturnLemmas.{gives_by, one_fits, great_stops, return_does}
use Rattle.machine_state.specs.declared.state.State.{State}
use Rattle.machine_state.specs.StateView.{inv_view}
use Rattle.machine_state.proofs.StateLemmas.{viewed}
use Rattle.machine_returns.proofs.returning.give_value.Goals as goal

pub value_at-requires-clause-bounded : goal.value_at-requires-clause-bounded
value_at-requires-clause-bounded c = λ inv at.
    let code = gives_by inv.left (expr_view c.args.e.now) (c.requires.gives inv at) in
    subst (λ (code : Code). NextWithin (read_at c.args.p.now c.args.s.now inv) code) code.1 (c.next_is_within.ensures inv at)

pub returns-in_err-value-clause-err : goal.returns-in_err-value-clause-err
returns-in_err-value-clause-err c =
    let p = c.args.p.now in
    let s : State = c.args.s.now in
    let same : c.from_residual.result ≡ Err c.in_err-value.field-0.0 = search (rules, c.from_residual.ensures) in
    subst (λ (o : Result Event StepErr). IfErr o (λ why. Stops p s (seen.Return c.args.i) s why)) (sym same)
    (great_stops p s c.args.i (expr_view c.args.e.now) _ c.requires.fits c.requires.within c.in_err-value.ensures.err c.requires.gives)

pub returns-clause-ok : goal.returns-clause-ok
returns-clause-ok c =
    let p = c.args.p.now in
    let s : State = c.args.s.now in
    let i = c.args.i in
    let e = expr_view c.args.e.now in
    let same : length s.infos ≡ length s.runs = c.requires.fits.kept.runs in
    let within : i < length s.runs = omega (arith, c.requires.within) in
    let it = viewed (program_view p) s i same within in
    let inv = inv_view (program_view p) (calls_view s.history) it.info it.run in
    let code = gives_by inv.left e (c.requires.gives inv it.is) in
    let v : Value = c.in_ok-value.value in
    let is = c.in_ok-value.ensures.value inv it.is in
    subst (λ (new : State). Does p s (seen.Return i) new event.Moved) (sym (c.give.ensures it.info it.run it.is_info it.is_run))
    (return_does p s i it.info it.run (ReturnedWith v) c.learn.new.known code.0 (Some e) c.requires.fits it.is_info it.is_run (c.requires.running it.run it.is_run) code.1 refl
    (ap (λ x. Some x) is)
    (one_fits (ints_fit (value (read_at p s inv) [] e)) true (ap ints_fit (sym is) ∙ c.in_ok-value.ensures.ints))
    c.in_ok-learn.ensures.ok)
