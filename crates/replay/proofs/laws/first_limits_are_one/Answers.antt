use Rattle.replay.proofs.LimitLemmas.{one_limit}
use Rattle.replay.proofs.laws.first_limits_are_one.Goals as goal

pub returns : goal.returns
returns c = record {
  which = λ p start labels a b n m f g. (one_limit p start labels a b n m f g).0;
  step = λ p start labels a b n m f g. (one_limit p start labels a b n m f g).1;
}
