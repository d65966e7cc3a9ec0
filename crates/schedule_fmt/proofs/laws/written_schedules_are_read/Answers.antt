use Rattle.schedule_fmt.proofs.TypedText.{written_is_read}
use Rattle.schedule_fmt.proofs.laws.written_schedules_are_read.Goals as goal

pub returns : goal.returns
returns c = λ p s h t. written_is_read p s h t
