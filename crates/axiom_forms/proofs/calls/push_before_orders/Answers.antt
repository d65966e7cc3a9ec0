use Rattle.axiom_forms.proofs.Chains.{behind}
use Rattle.axiom_forms.proofs.calls.push_before_orders.Goals as goal

pub returns : goal.returns
returns c = behind _ _ _ _ _ c.in_ok-push_each.ensures c.in_ok-push_each-2.ensures
