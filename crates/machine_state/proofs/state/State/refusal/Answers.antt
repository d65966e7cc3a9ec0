use Rattle.std.proofs.Common.{◌≡◌, subst}
use Rattle.std.specs.Prelude.{option_map, IfOk}
use Rattle.rp_lang.specs.ProgramView.{program_view}
use Rattle.machine_state.specs.StateView.{state_view}
use Rattle.step_labels.specs.StepLabels.{label_view}
use Rattle.machine_state.specs.StepView.{why_view}
use Rattle.machine_state.proofs.RefusalLemmas.{named_why, named_fine}
use Rattle.machine_state.proofs.state.State.refusal.Goals as goal

pub returns-in-Some-not_at : goal.returns-in-Some-not_at
returns-in-Some-not_at c =
    let v = program_view c.args.p.now in
    named_why v (state_view v c.args.self.now) (label_view c.args.step.now) c.in-Some.inv _ _ c.in-Some.ensures c.action_of.ensures c.in-Some-not_at.ensures.why

pub returns-in-None-not_at : goal.returns-in-None-not_at
returns-in-None-not_at c =
    let v = program_view c.args.p.now in
    let same = named_fine v (state_view v c.args.self.now) (label_view c.args.step.now) c.in-Some.inv _ c.in-Some.ensures c.action_of.ensures c.in-None-not_at.ensures.why in
    subst (λ o. IfOk c.refused_behind.result (λ why. option_map why_view why ≡ o)) same c.refused_behind.ensures
