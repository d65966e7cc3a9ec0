use Rattle.rp_logic.specs.Views.{formula_view}
use Rattle.reshaped.proofs.ClauseViews.{alls_of}
use Rattle.reshaped.proofs.clauses.+either.Given as goal

abbrev pub decreases-either : goal.decreases-either
decreases-either l = alls_of (formula_view l.f.now)
