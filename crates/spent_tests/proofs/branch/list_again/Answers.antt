use Rattle.std.proofs.Common.{map}
use Rattle.spent_tests.specs.Views.{standing_view}
use Rattle.spent_tests.proofs.Listings.{listed_next}
use Rattle.spent_tests.proofs.branch.list_again.Goals as goal

pub loop-p-preserved : goal.loop-p-preserved
loop-p-preserved c =
    listed_next c.args.b.now.branch.formulas c.args.b.now.ranks c.loop-p.p c.get.result.now
    c.get-rank.result.now (map standing_view c.loop-p.standing)
    (map standing_view c.add_formula_terms.new.standing) _ c.loop-p.invariant c.get.ensures
    c.get-rank.ensures c.in_ok-add_formula_terms.ensures
