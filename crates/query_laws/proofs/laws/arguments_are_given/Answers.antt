use Rattle.query_laws.proofs.Arguments.{arguments_given}
use Rattle.query_laws.proofs.laws.arguments_are_given.Goals as goal

pub returns : goal.returns
returns c = arguments_given
