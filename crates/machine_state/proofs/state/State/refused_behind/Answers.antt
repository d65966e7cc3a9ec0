use Rattle.std.proofs.Common.{ap, sym, ◌∙◌}
use Rattle.rp_lang.specs.ProgramView.{program_view}
use Rattle.event_machine.specs.Machine.{named}
use Rattle.machine_state.specs.StateView.{state_view}
use Rattle.step_labels.specs.StepLabels.{label_view}
use Rattle.machine_state.specs.means.Refusals.{behind}
use Rattle.machine_state.proofs.state.State.refused_behind.Goals as goal

pub refused_begin-requires-clause-within : goal.refused_begin-requires-clause-within
refused_begin-requires-clause-within c = c.requires.within c.in-Begin.inv (ap (λ s. named (label_view s)) c.in-Begin.is)

pub refused_op-requires-clause-within : goal.refused_op-requires-clause-within
refused_op-requires-clause-within c = c.requires.within c.in-Op.inv (ap (λ s. named (label_view s)) c.in-Op.is)

pub refused_new-requires-clause-within : goal.refused_new-requires-clause-within
refused_new-requires-clause-within c = c.requires.within c.in-New.inv (ap (λ s. named (label_view s)) c.in-New.is)

pub returns-in-Op : goal.returns-in-Op
returns-in-Op c =
    let v = program_view c.args.p.now in
    c.refused_op.ensures ∙ sym (ap (λ s. behind v (state_view v c.args.self.now) (label_view s)) c.in-Op.is)
