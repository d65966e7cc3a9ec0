use Rattle.query_laws.proofs.Bodies.{no_bodies, next_bodies}
use Rattle.query_laws.proofs.laws.bodies_are_uses.Goals as goal

pub returns : goal.returns
returns c = record {
  none = no_bodies;
  next = next_bodies;
}
