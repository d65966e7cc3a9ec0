use Rattle.rp_logic.specs.Views.{formula_view}
use Rattle.reshaped.proofs.ClauseViews.{alls_of}
use Rattle.reshaped.proofs.clauses.+beside.Given as goal

abbrev pub decreases-beside : goal.decreases-beside
decreases-beside l = alls_of (formula_view l.g.now)
