use Rattle.query_laws.proofs.Said.{no_terms_say, more_terms_say, further_terms_say}
use Rattle.query_laws.proofs.forms.terms_are_said.Goals as goal

pub returns : goal.returns
returns c = record {
  none = no_terms_say;
  more = more_terms_say;
  further = further_terms_say;
}
