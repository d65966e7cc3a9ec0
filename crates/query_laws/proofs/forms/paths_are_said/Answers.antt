use Rattle.query_laws.proofs.Accessed.{no_keys_say, further_keys_say, key_says, dot_says, returned_says, absent_says, given_says}
use Rattle.query_laws.proofs.forms.paths_are_said.Goals as goal

pub returns : goal.returns
returns c = record {
  none = no_keys_say;
  further = further_keys_say;
  key = key_says;
  dot = dot_says;
  returned = returned_says;
  absent = absent_says;
  given = given_says;
}
