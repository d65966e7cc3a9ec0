use Rattle.axiom_forms.proofs.Chains.{behind_five}
use Rattle.axiom_forms.proofs.views.push_views_grow.Goals as goal

pub returns : goal.returns
returns c = behind_five _ _ _ _ _ _ _ _ _ _ _ c.in_ok-push_part_is_old.ensures c.in_ok-push_closed.ensures c.in_ok-push_closed-2.ensures c.in_ok-push_of_views.ensures c.in_ok-push_of_chain.ensures
