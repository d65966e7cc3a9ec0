use Rattle.std.proofs.Common.{rules, ◌<◌}
use Rattle.lower_exprs.proofs.Notes.{large_value}
use Rattle.lower_exprs.proofs.values.Maker.build.Goals as goal

pub returns-then-facts-gt-MOST_NODES-clause-nodes : goal.returns-then-facts-gt-MOST_NODES-clause-nodes
returns-then-facts-gt-MOST_NODES-clause-nodes c is v h told =
    let cons = c.args.self.now.work.cons.now in
    let many : 200000 < c.args.facts.nodes = search rules in
    large_value cons v c.args.facts (λ e t. c.large_values_are_past.ensures.term cons e c.args.facts t many)
    (λ f t. c.large_values_are_past.ensures.formula cons f c.args.facts t many) told
