use Rattle.rp_logic.proofs.NewConstants.{truth_lacks}
use Rattle.rp_logic.proofs.NewConstantSorts.{formula_new}
use Rattle.rp_logic.proofs.laws.unused_constants_are_free.Goals as goal

pub returns : goal.returns
returns c = record {
  value = λ S M consts c v vars f h. truth_lacks S M consts c v f vars h;
  sort = λ S added new scope f l h. formula_new f S added new scope l h;
}
