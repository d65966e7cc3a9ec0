use Rattle.axiom_forms.proofs.views.+push_of_views.Given as goal

abbrev pub decreases-push_of_views : goal.decreases-push_of_views
decreases-push_of_views l = l.n
