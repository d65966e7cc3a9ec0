use Rattle.axiom_forms.proofs.Chains.{pushed}
use Rattle.axiom_forms.proofs.clauses.push_formula.Goals as goal

pub returns : goal.returns
returns c = pushed _ _ _ c.in_ok-push.ensures
