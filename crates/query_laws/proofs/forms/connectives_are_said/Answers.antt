use Rattle.query_laws.proofs.Said.{claim_says, truth_says, implies_says, not_says, or_says, and_says, no_claims_say, more_claims_say}
use Rattle.query_laws.proofs.forms.connectives_are_said.Goals as goal

pub returns : goal.returns
returns c = record {
  formula = claim_says;
  truth = truth_says;
  implies = implies_says;
  not = not_says;
  or = or_says;
  and = and_says;
  none = no_claims_say;
  more = more_claims_say;
}
