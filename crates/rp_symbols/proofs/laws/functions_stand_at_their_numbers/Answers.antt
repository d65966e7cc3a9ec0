use Rattle.std.proofs.Common.{◌-◌, refl}
use Rattle.rp_symbols.proofs.StandToo.{values-stand}
use Rattle.rp_symbols.proofs.laws.functions_stand_at_their_numbers.Goals as goal

pub returns : goal.returns
returns c = record {
  calls = λ p views. (refl, refl);
  invocations = λ p views. (refl, refl, refl);
  numbers = λ p views. (refl, refl);
  values = λ p views. values-stand p (views - 1);
}
