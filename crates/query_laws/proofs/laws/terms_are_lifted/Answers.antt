use Rattle.query_laws.proofs.Lifted.{sum_lifted, difference_lifted}
use Rattle.query_laws.proofs.PutLifted.{put_lifted}
use Rattle.query_laws.proofs.laws.terms_are_lifted.Goals as goal

pub returns : goal.returns
returns c = record {
  sum = sum_lifted;
  difference = difference_lifted;
  put_in = put_lifted;
}
