use Rattle.query_laws.proofs.Said.{int_says, str_says, bool_says, unreturned_says, tx_says, none_says, some_says}
use Rattle.query_laws.proofs.forms.atoms_are_said.Goals as goal

pub returns : goal.returns
returns c = record {
  int = int_says;
  str = str_says;
  truth = bool_says;
  unreturned = unreturned_says;
  tx = tx_says;
  none = none_says;
  some = some_says;
}
