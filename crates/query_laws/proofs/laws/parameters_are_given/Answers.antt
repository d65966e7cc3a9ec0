use Rattle.query_laws.proofs.Under.{body_vars, body_stands}
use Rattle.query_laws.proofs.Bodies.{body_said}
use Rattle.query_laws.proofs.laws.parameters_are_given.Goals as goal

pub returns : goal.returns
returns c = record {
  vars = body_vars;
  stand = body_stands;
  body = body_said;
}
