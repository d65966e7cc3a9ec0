use Rattle.query_laws.proofs.Said.{forall_says, exists_says}
use Rattle.query_laws.proofs.forms.quantifiers_are_said.Goals as goal

pub returns : goal.returns
returns c = record {
  forall = forall_says;
  exists = exists_says;
}
