use Rattle.rp_logic.proofs.DualLaws.{stable, dual_law}
use Rattle.rp_logic.proofs.laws.truth_is_classical.Goals as goal

pub returns : goal.returns
returns c = record {
  stable = λ M vars f h. stable f M vars h;
  excluded_middle = λ M vars f n. n.1.0 ((dual_law f M vars).1 n.0);
}
