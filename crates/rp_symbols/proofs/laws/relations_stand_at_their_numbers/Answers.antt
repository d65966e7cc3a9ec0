use Rattle.std.proofs.Common.{◌-◌, refl, arith}
use Rattle.rp_symbols.proofs.StandToo.{id-stands, seen-stands, read-stands}
use Rattle.rp_symbols.proofs.laws.relations_stand_at_their_numbers.Goals as goal

pub returns : goal.returns
returns c = record {
  sets = λ p views. (refl, refl, refl, refl);
  invocations = λ p views. (refl, refl);
  pairs = λ p views. (refl, refl, refl);
  in_operations = λ p views ty atom a e. id-stands p (views - 1) ty 0 atom a e (omega arith);
  in_arguments = λ p views ty atom a e. id-stands p (views - 1) ty 1 atom a e (omega arith);
  in_results = λ p views ty atom a e. id-stands p (views - 1) ty 2 atom a e (omega arith);
  seen = λ p views k l. seen-stands p (views - 1) k l;
  read = λ p views k l. read-stands p (views - 1) k l;
}
