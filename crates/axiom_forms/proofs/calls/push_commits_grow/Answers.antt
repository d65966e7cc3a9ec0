use Rattle.axiom_forms.proofs.Chains.{behind_four}
use Rattle.axiom_forms.proofs.calls.push_commits_grow.Goals as goal

pub returns : goal.returns
returns c = behind_four _ _ _ _ _ _ _ _ _ c.in_ok-push_part_of.ensures c.in_ok-push_origins.ensures c.in_ok-push_closed.ensures c.in_ok-push_closed-2.ensures
