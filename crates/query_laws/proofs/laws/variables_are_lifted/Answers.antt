use Rattle.query_laws.proofs.Under.{vars_under, stands_under, pattern_under, stands_in_pattern, vars_same, seen_more}
use Rattle.query_laws.proofs.laws.variables_are_lifted.Goals as goal

pub returns : goal.returns
returns c = record {
  under = vars_under;
  stand_under = stands_under;
  pattern = pattern_under;
  stand_in_pattern = stands_in_pattern;
  rules = vars_same;
  one_more = seen_more;
}
