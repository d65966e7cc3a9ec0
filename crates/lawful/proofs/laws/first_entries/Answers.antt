use Rattle.std.proofs.Common.{List, refl}
use Rattle.rp_grammar.specs.Trees.{DeclTree}
use Rattle.type_rules.specs.Queries.{names_of}
use Rattle.desugaring.specs.Appearances.{kinds_from}
use Rattle.desugaring.specs.Tables.{tables_of}
use Rattle.lawful.proofs.Bools.{BoolFirst, bool_is, bools_are, bool_stands, tx_is}
use Rattle.lawful.proofs.laws.first_entries.Goals as goal

begins : (tree : List DeclTree) → BoolFirst (tables_of tree)
begins tree = (kinds_from (names_of tree) 0 0 tree, refl)

pub returns : goal.returns
returns c = record {
  bools = λ tree p is. bool_is (tables_of tree) (begins tree);
  no = λ tree p is. (bools_are (tables_of tree) p is.1.cons (begins tree)).0;
  yes = λ tree p is. (bools_are (tables_of tree) p is.1.cons (begins tree)).1;
  truths = λ tree p is. bool_stands (tables_of tree) p is.1.types is.1.cons (begins tree);
  markers = λ tree p is. tx_is (tables_of tree) p.ops is.1.ops;
}
