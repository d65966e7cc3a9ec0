use Rattle.schedule_fmt.specs.Views.{schedule_view}
use Rattle.replay.proofs.ReadLemmas.{read_universe, read_steps}
use Rattle.replay.proofs.laws.read_schedules_fit.Goals as goal

pub returns : goal.returns
returns c = record {
  some = λ s. read_universe (schedule_view s);
  steps = read_steps;
}
