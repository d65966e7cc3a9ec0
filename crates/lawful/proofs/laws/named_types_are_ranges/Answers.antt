use Rattle.desugaring.specs.Tables.{tables_of}
use Rattle.lawful.proofs.Atoms.{atom_is}
use Rattle.lawful.proofs.laws.named_types_are_ranges.Goals as goal

pub returns : goal.returns
returns c = λ tree p is. atom_is (tables_of tree) p is.1.types
