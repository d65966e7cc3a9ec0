use Rattle.std.proofs.Common.{◌≡◌, ℕ, ◌<◌, List, [], length, reverse, slice_get, slice_set, ap, ◌∙◌, sym, subst, arith}
use Rattle.std.proofs.Common.{Err, rules}
use Rattle.std.specs.Prelude.{Result, IfErr}
use Rattle.rp_lang.specs.declared.event.Event.{Event}
use Rattle.machine_effects.specs.declared.error.StepErr.{StepErr}
use Rattle.std.proofs.lemmas.List.{length-set, set-set, reverse-reverse}
use Rattle.rp_value.specs.ValueView.{value_view, values_view}
use Rattle.rp_value.specs.declared.value.Value.{Value}
use Rattle.rp_lang.specs.ProgramView.{program_view}
use Rattle.rp_lang.specs.Views.{expr_view, stmt_arms_view}
use Rattle.rp_lang.specs.declared.event.Event.TheVariants as event
use Rattle.code_points.specs.Points.{arms_from}
use Rattle.crdt_defs.specs.Atoms.{ints_fit}
use Rattle.crdt_defs.specs.Truths.{value}
use Rattle.event_machine.specs.Code as left
use Rattle.event_machine.specs.Code.{Code}
use Rattle.event_machine.specs.States as seen
use Rattle.machine_bounds.specs.NextWithin.{NextWithin}
use Rattle.machine_effects.specs.Steps.{Does, Stops}
use Rattle.machine_effects.proofs.EffectLemmas.{set_here}
use Rattle.machine_locals.specs.Slots.{filled}
use Rattle.machine_locals.proofs.LocalLemmas.{stood, limit_is, wide_limit, great_stops}
use Rattle.machine_locals.proofs.ArmLemmas.{match_unbuilt, match_none, match_does}
use Rattle.machine_reads.specs.Reads.{read_at}
use Rattle.machine_state.specs.declared.state.Run.{Run}
use Rattle.machine_state.specs.declared.state.State.{State}
use Rattle.machine_state.specs.StateView.{left_of}
use Rattle.machine_state.proofs.StateLemmas.{some_at}
use Rattle.machine_locals.proofs.arm.enter.Goals as goal

pub value_at-requires-clause-bounded : goal.value_at-requires-clause-bounded
value_at-requires-clause-bounded c = λ inv at.
    subst (λ (code : Code). NextWithin (read_at c.args.p.now c.args.s.now inv) code) (c.requires.next inv at) (c.next_is_within.ensures inv at)

pub returns-in_err-value-clause-err : goal.returns-in_err-value-clause-err
returns-in_err-value-clause-err c =
    let p = c.args.p.now in
    let s : State = c.args.s.now in
    let i = c.args.i in
    let on = expr_view c.args.on.now in
    let arms = stmt_arms_view c.args.arms.now in
    let same : c.from_residual.result ≡ Err c.in_err-value.field-0.0 = search (rules, c.from_residual.ensures) in
    subst (λ (o : Result Event StepErr). IfErr o (λ why. Stops p s (seen.Local i) s why)) (sym same)
    (great_stops p s i on _ c.requires.fits c.requires.within c.in_err-value.ensures.err
    (λ inv at wide.
    limit_is p s i inv (left.Match on (arms_from (left_of (slice_get (program_view p).procs inv.proc)) arms c.args.first)) at (c.requires.next inv at)
    ∙ wide_limit (ints_fit (value (read_at p s inv) [] on)) wide))

pub returns-in_default-clause-ok : goal.returns-in_default-clause-ok
returns-in_default-clause-ok c =
    let p = c.args.p.now in
    let s : State = c.args.s.now in
    let i = c.args.i in
    let on = expr_view c.args.on.now in
    let arms = stmt_arms_view c.args.arms.now in
    let it = stood p s i (λ at. left.Match on (arms_from at arms c.args.first)) c.requires.fits c.requires.within c.requires.next in
    match_unbuilt p s i c.args.first on arms (value_view c.in_ok-value.value) c.requires.fits it (c.in_ok-value.ensures.value _ it.at) c.in_ok-value.ensures.ints (sym c.in_default.ensures)

pub returns-in_default-arm_of-clause-ok : goal.returns-in_default-arm_of-clause-ok
returns-in_default-arm_of-clause-ok c =
    let p = c.args.p.now in
    let s : State = c.args.s.now in
    let i = c.args.i in
    let on = expr_view c.args.on.now in
    let arms = stmt_arms_view c.args.arms.now in
    let it = stood p s i (λ at. left.Match on (arms_from at arms c.args.first)) c.requires.fits c.requires.within c.requires.next in
    match_none p s i c.args.first c.in-Some.con (values_view c.in-Some.args) on arms (value_view c.in_ok-value.value) c.requires.fits it (c.in_ok-value.ensures.value _ it.at) c.in_ok-value.ensures.ints
    (sym c.in-Some.ensures) (sym c.in_default-arm_of.ensures)

pub fill-requires : goal.fill-requires
fill-requires c =
    let same : length c.args.s.now.infos ≡ length c.args.s.now.runs = c.requires.fits.kept.runs in
    omega (arith, c.requires.within)

pub go_on-requires : goal.go_on-requires
go_on-requires c =
    let s : State = c.args.s.now in
    let same : length s.infos ≡ length s.runs = c.requires.fits.kept.runs in
    let within : c.args.i < length s.runs = omega (arith, c.requires.within) in
    let run = some_at s.runs c.args.i within in
    let len = ap length (c.fill.ensures run.0 run.1) ∙ length-set s.runs c.args.i _ in
    omega (arith, len)

pub returns-clause-ok : goal.returns-clause-ok
returns-clause-ok c =
    let p = c.args.p.now in
    let s : State = c.args.s.now in
    let i = c.args.i in
    let on = expr_view c.args.on.now in
    let arms = stmt_arms_view c.args.arms.now in
    let same : length s.infos ≡ length s.runs = c.requires.fits.kept.runs in
    let within : i < length s.runs = omega (arith, c.requires.within) in
    let it = stood p s i (λ at. left.Match on (arms_from at arms c.args.first)) c.requires.fits c.requires.within c.requires.next in
    let run : Run = it.run in
    let args : List Value = c.in-Some.args in
    let slots : List ℕ = c.in-Some-arm_of.slots.now in
    let at = c.in-Some-arm_of.at in
    let back : reverse c.in_ok-fields.fields ≡ args = ap reverse c.in_ok-fields.ensures ∙ reverse-reverse args in
    let first : List Value → Run = λ vs. record run { slots = filled slots vs run.slots } in
    let filled_in : c.fill.new.runs ≡ slice_set s.runs i (first args) = c.fill.ensures run it.is_run ∙ ap (λ (vs : List Value). slice_set s.runs i (first vs)) back in
    let last : Run = record run { slots = filled slots args run.slots; at = at } in
    let gone : c.go_on.new.self ≡ slice_set s.runs i last =
    c.go_on.ensures (first args) (ap (λ (rs : List Run). slice_get rs i) filled_in ∙ set_here s.runs i (first args) within)
    ∙ ap (λ (rs : List Run). slice_set rs i last) filled_in
    ∙ set-set s.runs i (first args) last in
    subst (λ (rs : List Run). Does p s (seen.Local i) (record s { runs = rs }) event.Moved) (sym gone)
    (match_does p s i c.args.first c.in-Some.con at slots args on arms (value_view c.in_ok-value.value) c.requires.fits it (c.in_ok-value.ensures.value _ it.at) c.in_ok-value.ensures.ints
    (sym c.in-Some.ensures) (sym c.in-Some-arm_of.ensures))
