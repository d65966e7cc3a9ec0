use Rattle.query_laws.proofs.Enough.{slot_over, param_over, level_over, int_over, str_over, result_term_over, unreturned_over, con_over, query_over, op_term_over, info_term_over, op_of_over, origin_of_over, info_of_over, result_of_over, result_with_over, sum_over, difference_over}
use Rattle.query_laws.proofs.over.terms_are_over.Goals as goal

pub returns : goal.returns
returns c = record {
  slot = slot_over;
  param = param_over;
  level = level_over;
  int = int_over;
  str = str_over;
  result_term = result_term_over;
  unreturned = unreturned_over;
  con = con_over;
  query = query_over;
  op_term = op_term_over;
  info_term = info_term_over;
  op_of = op_of_over;
  origin_of = origin_of_over;
  info_of = info_of_over;
  result_of = result_of_over;
  result_with = result_with_over;
  sum = sum_over;
  difference = difference_over;
}
