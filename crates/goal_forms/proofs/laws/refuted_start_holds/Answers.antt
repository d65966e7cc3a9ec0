use Rattle.goal_forms.proofs.StartLaws.{start-met, begins}
use Rattle.goal_forms.proofs.laws.refuted_start_holds.Goals as goal

pub returns : goal.returns
returns c = record { met = start-met; begin = begins }
