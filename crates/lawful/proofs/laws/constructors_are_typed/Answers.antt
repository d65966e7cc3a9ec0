use Rattle.lawful.proofs.Cons.{con_is, arm_is, arm_many_is}
use Rattle.lawful.proofs.laws.constructors_are_typed.Goals as goal

pub returns : goal.returns
returns c = record {
  terms = con_is;
  arms = arm_is;
  variables = arm_many_is;
}
