use Rattle.std.proofs.Common.{OnOk, map, subst}
use Rattle.rp_lang.specs.ProgramView.{program_view}
use Rattle.event_machine.specs.States.{empty as empty_state}
use Rattle.step_labels.specs.StepLabels.{label_view}
use Rattle.replay.specs.Outcomes.{MeetsNone}
use Rattle.replay.proofs.replayed.replay.Goals as goal

pub returns-in-Ok-clause-unlimited : goal.returns-in-Ok-clause-unlimited
returns-in-Ok-clause-unlimited c =
    let v = program_view c.args.p.now in
    subst (λ steps. OnOk c.run.result (MeetsNone v (empty_state c.args.s.now.universe) (map label_view steps))) c.as_slice.ensures.items
    (subst (λ start. OnOk c.run.result (MeetsNone v start (map label_view c.as_slice.result.now))) c.in-Ok.ensures.state c.run.ensures.unlimited)
