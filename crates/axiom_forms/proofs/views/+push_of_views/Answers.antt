use Rattle.rp_lang.specs.ProgramView.{program_view}
use Rattle.axiom_forms.proofs.ViewSteps.{views_none, views_some}
use Rattle.axiom_forms.proofs.views.+push_of_views.Goals as goal

pub returns-then-n-eq0 : goal.returns-then-n-eq0
returns-then-n-eq0 t c = views_none (program_view c.args.p.now) c.args.n _ c.if-n-eq0.true

pub returns-in_ok-push_of_views : goal.returns-in_ok-push_of_views
returns-in_ok-push_of_views t c = views_some (program_view c.args.p.now) c.args.n _ _ _ c.if-n-eq0.false c.in_ok-push_of_view.ensures c.in_ok-push_of_views.ensures
