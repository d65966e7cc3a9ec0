use Rattle.query_laws.proofs.NextMeasured.{added_measured, next_added, none_added}
use Rattle.query_laws.proofs.measures.bodies_are_measured.Goals as goal

pub returns : goal.returns
returns c = record {
  none = none_added;
  next = next_added;
  whole = added_measured;
}
