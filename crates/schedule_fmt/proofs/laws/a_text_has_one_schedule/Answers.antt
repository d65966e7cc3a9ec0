use Rattle.schedule_fmt.proofs.Faults.{one_schedule}
use Rattle.schedule_fmt.proofs.laws.a_text_has_one_schedule.Goals as goal

pub returns : goal.returns
returns c = λ p s t bytes a b. one_schedule p s t bytes a b
