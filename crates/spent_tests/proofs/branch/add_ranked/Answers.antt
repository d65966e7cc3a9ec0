use Rattle.spent_tests.proofs.Listings.{listed_more}
use Rattle.spent_tests.proofs.branch.add_ranked.Goals as goal

pub returns-clause-listed : goal.returns-clause-listed
returns-clause-listed c =
    listed_more c.args.b.now
    (record {
      branch = c.add_formula.new.b;
      ranks = c.push.new.self;
      standing = c.add_formula_terms.new.standing;
    })
    c.args.formula c.args.rank c.requires.listed c.in_ok-add_formula.ensures.formulas
    c.in_ok-push.ensures.ok c.in_ok-add_formula_terms.ensures
