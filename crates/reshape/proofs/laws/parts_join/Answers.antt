use Rattle.reshape.proofs.FlattenLaws.{or-flat, and-flat, or-first}
use Rattle.reshape.proofs.laws.parts_join.Goals as goal

pub returns : goal.returns
returns c = record { disjuncts = or-flat; conjuncts = and-flat; first = or-first }
