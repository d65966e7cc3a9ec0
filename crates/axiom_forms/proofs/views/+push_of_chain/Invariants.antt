use Rattle.axiom_forms.proofs.views.+push_of_chain.Given as goal

abbrev pub decreases-push_of_chain : goal.decreases-push_of_chain
decreases-push_of_chain l = l.n
