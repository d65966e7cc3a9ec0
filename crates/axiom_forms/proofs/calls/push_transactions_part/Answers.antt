use Rattle.axiom_forms.proofs.Chains.{behind_four}
use Rattle.axiom_forms.proofs.calls.push_transactions_part.Goals as goal

pub returns : goal.returns
returns c = behind_four _ _ _ _ _ _ _ _ _ c.in_ok-push_each.ensures c.in_ok-push_each-2.ensures c.in_ok-push_each-3.ensures c.in_ok-push_each-4.ensures
