use Rattle.std.proofs.Common.{◌≡◌, map}
use Rattle.rp_lang.specs.ProgramView.{program_view}
use Rattle.step_labels.specs.StepLabels.{label_view}
use Rattle.machine_state.specs.Fits.{Fits}
use Rattle.machine_state.specs.StateView.{state_view}
use Rattle.replay.proofs.Walks.{Walks}
use Rattle.replay.proofs.replayed.run.Given as goal

abbrev pub invariant-loop-step : goal.invariant-loop-step
invariant-loop-step l = record {
  counted : l.number ≡ l.step-index;
  fits : Fits l.p l.state;
  walks : Walks (program_view l.p) (state_view (program_view l.p) l.initial.state) (map label_view l.steps) l.step-index (state_view (program_view l.p) l.state);
}
