use Rattle.rp_logic.specs.Views.{term_view}
use Rattle.reshaped.proofs.FillViews.{untold}
use Rattle.reshaped.proofs.eliminating.told.Goals as goal

pub returns-then-stands-clause-none : goal.returns-then-stands-clause-none
returns-then-stands-clause-none c = λ _. untold (term_view c.args.t.now) (term_view c.args.b.now) c.if-stands.ensures
