use Rattle.query_laws.proofs.Said.{plus_says, minus_says}
use Rattle.query_laws.proofs.forms.numbers_are_said.Goals as goal

pub returns : goal.returns
returns c = record {
  plus = plus_says;
  minus = minus_says;
}
