use Rattle.query_laws.proofs.Enough.{no_claims_over, more_claims_over, no_arms_over, more_arms_over}
use Rattle.query_laws.proofs.over.lists_are_over.Goals as goal

pub returns : goal.returns
returns c = record {
  no_claims = no_claims_over;
  more_claims = more_claims_over;
  no_arms = no_arms_over;
  more_arms = more_arms_over;
}
