use Rattle.rp_tokens.proofs.OneAnswer.{some_answer, one_bad, one_too_deep, tree_not_bad, tree_not_too_deep, bad_not_too_deep}
use Rattle.rp_tokens.proofs.laws.one_answer.Goals as goal

pub returns : goal.returns
returns c = record {
  some = some_answer;
  one_bad = one_bad;
  one_too_deep = one_too_deep;
  tree_not_bad = tree_not_bad;
  tree_not_too_deep = tree_not_too_deep;
  bad_not_too_deep = bad_not_too_deep;
}
