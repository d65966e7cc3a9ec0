use Rattle.rp_symbols.proofs.Stand.{atoms-stand, ints-stand, strings-stand, datatypes-stand, operations-sort, records-sort, outcomes-sort}
use Rattle.rp_symbols.proofs.laws.sorts_stand_at_their_numbers.Goals as goal

pub returns : goal.returns
returns c = record {
  atoms = λ p views. atoms-stand p;
  ints = λ p views. ints-stand p;
  strings = λ p views. strings-stand p;
  datatypes = λ p views. datatypes-stand p;
  operations = λ p views. operations-sort p;
  records = λ p views. records-sort p;
  outcomes = λ p views. outcomes-sort p;
}
