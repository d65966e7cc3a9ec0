use Rattle.rp_logic.proofs.OpenSorts.{value_sort}
use Rattle.rp_logic.proofs.laws.open_terms_have_values.Goals as goal

pub returns : goal.returns
returns c = λ S M consts added scope vars s t fits is h. value_sort t S M consts added scope vars s fits is h
