use Rattle.std.proofs.Common.{ap, sym, ◌∙◌, refl}
use Rattle.std.specs.Prelude.{option_map}
use Rattle.machine_state.specs.StepView.{why_view}
use Rattle.step_labels.specs.StepLabels.{label_view}
use Rattle.machine_steps.proofs.StepLemmas.{all_steps, all_fail, all_fit}
use Rattle.machine_steps.proofs.steps.step.Goals as goal

pub returns-in-Some-clause-err : goal.returns-in-Some-clause-err
returns-in-Some-clause-err c = (refl, sym c.in_ok-refused.ensures ∙ ap (option_map why_view) c.in-Some.is)

pub act-requires-clause-free : goal.act-requires-clause-free
act-requires-clause-free c = sym c.in_ok-refused.ensures ∙ ap (option_map why_view) c.in-None.is

pub returns-in-None-clause-ok : goal.returns-in-None-clause-ok
returns-in-None-clause-ok c =
    all_steps c.args.p.now c.args.s.now c.act.new.s (label_view c.args.label.now) _ (sym c.in_ok-refused.ensures ∙ ap (option_map why_view) c.in-None.is) c.act.ensures.ok

pub returns-in-None-clause-err : goal.returns-in-None-clause-err
returns-in-None-clause-err c =
    all_fail c.args.p.now c.args.s.now c.act.new.s (label_view c.args.label.now) _ (sym c.in_ok-refused.ensures ∙ ap (option_map why_view) c.in-None.is) c.act.ensures.err

pub returns-in-None-clause-fits : goal.returns-in-None-clause-fits
returns-in-None-clause-fits c =
    all_fit c.args.p.now c.args.s.now c.act.new.s (label_view c.args.label.now) _ c.requires.fits (sym c.in_ok-refused.ensures ∙ ap (option_map why_view) c.in-None.is) c.act.ensures.ok c.act.ensures.err
