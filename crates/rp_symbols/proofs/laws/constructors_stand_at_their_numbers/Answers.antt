use Rattle.rp_symbols.proofs.Stand.{own-stand, operations-stand, records-stand, unreturned-stands, outcomes-stand}
use Rattle.rp_symbols.proofs.laws.constructors_stand_at_their_numbers.Goals as goal

pub returns : goal.returns
returns c = record {
  own = λ p views. own-stand p;
  operations = λ p views. operations-stand p;
  records = λ p views. records-stand p;
  unreturned = λ p views. unreturned-stands p;
  outcomes = λ p views. outcomes-stand p;
}
