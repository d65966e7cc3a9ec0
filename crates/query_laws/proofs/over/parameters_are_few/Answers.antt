use Rattle.query_laws.proofs.Few.{few_params, few_under, few_in_pattern, variable_over}
use Rattle.query_laws.proofs.over.parameters_are_few.Goals as goal

pub returns : goal.returns
returns c = record {
  body = few_params;
  under = few_under;
  pattern = few_in_pattern;
  variable = variable_over;
}
