use Rattle.rp_logic.proofs.ValueSorts.{closed_of_sort, closed_value}
use Rattle.rp_logic.proofs.laws.closed_terms_have_values.Goals as goal

pub returns : goal.returns
returns c = record {
  closed = λ S added s t h. closed_of_sort t S added s h;
  value = λ S M consts added s t fits h. closed_value t S M consts added s fits h;
}
