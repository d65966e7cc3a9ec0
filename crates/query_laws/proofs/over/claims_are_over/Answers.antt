use Rattle.query_laws.proofs.Enough.{and_over, or_over, not_over, implies_over, all_over, any_over, holds_over, visible_over, equal_over, less_over, at_most_over, before_over, same_over, match_is_over}
use Rattle.query_laws.proofs.over.claims_are_over.Goals as goal

pub returns : goal.returns
returns c = record {
  and = and_over;
  or = or_over;
  not = not_over;
  implies = implies_over;
  all = all_over;
  any = any_over;
  holds = holds_over;
  visible = visible_over;
  equal = equal_over;
  less = less_over;
  at_most = at_most_over;
  before = before_over;
  same = same_over;
  match_is = match_is_over;
}
