use Rattle.axiom_forms.proofs.Chains.{behind_five}
use Rattle.axiom_forms.proofs.calls.push_of_calls.Goals as goal

pub returns : goal.returns
returns c = behind_five _ _ _ _ _ _ _ _ _ _ _ c.in_ok-push_before_orders.ensures c.in_ok-push_stamps_order.ensures c.in_ok-push_transactions_part.ensures c.in_ok-push_transactions_are_whole.ensures c.in_ok-push_commits_grow.ensures
