use Rattle.std.proofs.Common.{◌≡◌, ℕ, Bool, ap, ◌∙◌, arith}
use Rattle.std.specs.FinSet as set
use Rattle.rp_lang.specs.ProgramView.{program_view}
use Rattle.rp_lang.specs.Views.{formula_view}
use Rattle.crdt_truth.specs.Readings.{reading_view, seen_in}
use Rattle.crdt_truth.proofs.OpenViews.{binders_view-Closed}
use Rattle.event_machine.specs.Machine as spec
use Rattle.machine_checks.proofs.SnapshotLemmas.{seen_members, truth_is, truth_within}
use Rattle.machine_state.specs.StateView.{state_view}
use Rattle.machine_checks.proofs.truths.truth.Goals as goal

pub truth-requires-clause-within : goal.truth-requires-clause-within
truth-requires-clause-within g c =
    let v = program_view c.args.p.now in
    let S : ℕ → Bool = set.contains (g.V.View.calls c.args.view.now) in
    let same : seen_in c.new-seen.result ≡ S =
    seen_members S c.len.result c.new-seen.result (c.new-seen.ensures ∙ c.in_ok-members.ensures.calls) (λ k here. let lt = c.requires.calls k here in omega (arith, lt, c.len.ensures.length)) in
    let reads : reading_view c.snapshot.result ≡ spec.at_snapshot v (state_view v c.args.s.now) S = c.snapshot.ensures.is ∙ ap (spec.at_snapshot v (state_view v c.args.s.now)) same in
    truth_within (reading_view c.snapshot.result) (spec.at_snapshot v (state_view v c.args.s.now) S) _ (formula_view c.args.f.now) reads binders_view-Closed c.requires.within

pub returns : goal.returns
returns g c =
    let v = program_view c.args.p.now in
    let S : ℕ → Bool = set.contains (g.V.View.calls c.args.view.now) in
    let same : seen_in c.new-seen.result ≡ S =
    seen_members S c.len.result c.new-seen.result (c.new-seen.ensures ∙ c.in_ok-members.ensures.calls) (λ k here. let lt = c.requires.calls k here in omega (arith, lt, c.len.ensures.length)) in
    let reads : reading_view c.snapshot.result ≡ spec.at_snapshot v (state_view v c.args.s.now) S = c.snapshot.ensures.is ∙ ap (spec.at_snapshot v (state_view v c.args.s.now)) same in
    truth_is (reading_view c.snapshot.result) (spec.at_snapshot v (state_view v c.args.s.now) S) _ (formula_view c.args.f.now) c.truth.result reads binders_view-Closed c.truth.ensures
