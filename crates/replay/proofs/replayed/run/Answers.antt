use Rattle.std.proofs.Common.{◌≡◌, ◌+◌, arith, refl, sym, ap, ◌∙◌, subst, map, length, IfOk, Ok}
use Rattle.std.proofs.lemmas.List.{length-map}
use Rattle.rp_lang.specs.declared.event.Event.TheVariants as event
use Rattle.machine_effects.specs.Steps.{Steps}
use Rattle.rp_lang.specs.ProgramView.{program_view}
use Rattle.event_machine.specs.Runs.{RefusedAt}
use Rattle.step_labels.specs.StepLabels.{label_view}
use Rattle.machine_state.specs.StateView.{state_view}
use Rattle.machine_state.specs.StepView.{why_view}
use Rattle.replay.specs.Outcomes.{IsCause}
use Rattle.replay.specs.declared.replayed.ReplayErr.TheVariants as err
use Rattle.replay.proofs.Events.{before, moved, checked, ends_violated, ends_refused, ends_limited}
use Rattle.replay.proofs.Walks.{ended}
use Rattle.replay.proofs.replayed.run.Goals as goal
use Rattle.replay.proofs.replayed.run.Goals.{in-Ok-Moved, in-Ok-Checked}

pub returns-in-Ok-Violated-clause-ok : goal.returns-in-Ok-Violated-clause-ok
returns-in-Ok-Violated-clause-ok c = (ends_violated c.args.p.now _ c.args.steps.now _ _ c.loop-step.state c.step.new.s _ _ _ c.loop-step.invariant.counted
    (before c.args.p.now _ c.args.steps.now _ c.loop-step.state _ c.loop-step-test.true c.step-item.is c.loop-step.invariant.walks)
    c.in-Ok-Violated.ensures.ok c.in-Ok-Violated.field-0-is).0

pub returns-in-Ok-Violated-clause-unlimited : goal.returns-in-Ok-Violated-clause-unlimited
returns-in-Ok-Violated-clause-unlimited c = (ends_violated c.args.p.now _ c.args.steps.now _ _ c.loop-step.state c.step.new.s _ _ _ c.loop-step.invariant.counted
    (before c.args.p.now _ c.args.steps.now _ c.loop-step.state _ c.loop-step-test.true c.step-item.is c.loop-step.invariant.walks)
    c.in-Ok-Violated.ensures.ok c.in-Ok-Violated.field-0-is).1

pub returns-in-Err-Refused-clause-ok : goal.returns-in-Err-Refused-clause-ok
returns-in-Err-Refused-clause-ok c =
    ap (λ why. RefusedAt (c.loop-step.number + 1) (why_view why)) c.in-Err-Refused.why-is
    ∙ (ends_refused c.args.p.now _ c.args.steps.now _ _ c.loop-step.state _ _ _ c.loop-step.invariant.counted
    (before c.args.p.now _ c.args.steps.now _ c.loop-step.state _ c.loop-step-test.true c.step-item.is c.loop-step.invariant.walks)
    c.in-Err-Refused.ensures.err.1 c.in-Err-Refused.field-0-is).0

pub returns-in-Err-Refused-clause-unlimited : goal.returns-in-Err-Refused-clause-unlimited
returns-in-Err-Refused-clause-unlimited c = (ends_refused c.args.p.now _ c.args.steps.now _ _ c.loop-step.state _ _ _ c.loop-step.invariant.counted
    (before c.args.p.now _ c.args.steps.now _ c.loop-step.state _ c.loop-step-test.true c.step-item.is c.loop-step.invariant.walks)
    c.in-Err-Refused.ensures.err.1 c.in-Err-Refused.field-0-is).1

pub returns-in-Err-Limit-clause-err : goal.returns-in-Err-Limit-clause-err
returns-in-Err-Limit-clause-err c =
    let v = program_view c.args.p.now in
    subst (λ which. IsCause v (state_view v c.args.state.now) (map label_view c.args.steps.now) (err.Limit which (c.loop-step.number + 1))) (sym c.in-Err-Limit.which-is)
    (ends_limited c.args.p.now _ c.args.steps.now _ _ c.loop-step.state _ _ _ c.loop-step.invariant.counted
    (before c.args.p.now _ c.args.steps.now _ c.loop-step.state _ c.loop-step-test.true c.step-item.is c.loop-step.invariant.walks)
    c.in-Err-Limit.ensures.err.1 c.in-Err-Limit.field-0-is)

pub loop-step-preserved : goal.loop-step-preserved
loop-step-preserved c =
    elim c.match-step-2.branch [
      | in-Ok-Moved w ↦
          let is : c.step.result ≡ Ok event.Moved = cc in
          record {
            counted = omega arith;
            fits = c.step.ensures.fits;
            walks = moved c.args.p.now _ c.args.steps.now _ c.loop-step.state c.step.new.s _ event.Moved
                (before c.args.p.now _ c.args.steps.now _ c.loop-step.state _ c.loop-step-test.true c.step-item.is c.loop-step.invariant.walks)
                (subst (λ r. IfOk r (λ told. Steps c.args.p.now c.loop-step.state (label_view c.step-item.result) c.step.new.s told)) is c.step.ensures.ok) refl;
          }
      | in-Ok-Checked w ↦
          let is : c.step.result ≡ Ok event.Checked = cc in
          record {
            counted = omega arith;
            fits = c.step.ensures.fits;
            walks = checked c.args.p.now _ c.args.steps.now _ c.loop-step.state c.step.new.s _ event.Checked
                (before c.args.p.now _ c.args.steps.now _ c.loop-step.state _ c.loop-step-test.true c.step-item.is c.loop-step.invariant.walks)
                (subst (λ r. IfOk r (λ told. Steps c.args.p.now c.loop-step.state (label_view c.step-item.result) c.step.new.s told)) is c.step.ensures.ok) refl;
          }
    ]

pub returns-clause-unlimited : goal.returns-clause-unlimited
returns-clause-unlimited c =
    let labels = map label_view c.args.steps.now in
    let same : length labels ≡ length c.args.steps.now = length-map c.args.steps.now label_view in
    let whole : c.loop-step.step-index ≡ length labels = omega arith in
    (ended _ _ labels c.loop-step.step-index _ c.loop-step.invariant.walks whole).1
