use Rattle.query_laws.proofs.Said.{match_says, no_arms_say, more_arms_say}
use Rattle.query_laws.proofs.forms.matches_are_said.Goals as goal

pub returns : goal.returns
returns c = record {
  match_is = match_says;
  none = no_arms_say;
  more = more_arms_say;
}
