use Rattle.schedule_fmt.proofs.Faults.{one_line}
use Rattle.schedule_fmt.proofs.laws.a_text_has_one_fault.Goals as goal

pub returns-clause-one : goal.returns-clause-one
returns-clause-one c = λ p bytes n m f g. one_line p bytes n m f g

pub returns-clause-no_schedule : goal.returns-clause-no_schedule
returns-clause-no_schedule c = λ p bytes n s f t. f.no_text s t
