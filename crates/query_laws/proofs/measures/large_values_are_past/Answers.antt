use Rattle.query_laws.proofs.Weights.{large_term, large_formula}
use Rattle.query_laws.proofs.measures.large_values_are_past.Goals as goal

pub returns : goal.returns
returns c = record {
  term = large_term;
  formula = large_formula;
}
