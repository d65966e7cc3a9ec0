use Rattle.query_laws.proofs.Enough.{term_over, claim_over, use_over}
use Rattle.query_laws.proofs.over.uses_are_over.Goals as goal

pub returns : goal.returns
returns c = record {
  term = term_over;
  claim = claim_over;
  use_is = use_over;
}
