use Rattle.query_laws.proofs.Said.{compare_says}
use Rattle.query_laws.proofs.forms.comparisons_are_said.Goals as goal

pub returns : goal.returns
returns c = compare_says
