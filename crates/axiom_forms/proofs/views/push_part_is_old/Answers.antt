use Rattle.axiom_forms.proofs.Chains.{behind_four}
use Rattle.axiom_forms.proofs.views.push_part_is_old.Goals as goal

pub returns : goal.returns
returns c = behind_four _ _ _ _ _ _ _ _ _ c.in_ok-push_part_of.ensures c.in_ok-push_part_of-2.ensures c.in_ok-push_part_of-3.ensures c.in_ok-push_each.ensures
