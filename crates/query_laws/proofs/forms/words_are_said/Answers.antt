use Rattle.query_laws.proofs.Said.{word_says}
use Rattle.query_laws.proofs.forms.words_are_said.Goals as goal

pub returns : goal.returns
returns c = word_says
