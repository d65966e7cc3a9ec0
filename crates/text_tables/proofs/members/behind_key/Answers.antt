use Rattle.rp_ast.specs.View.{type_view}
use Rattle.type_rules.specs.Kinds.{kind_of}
use Rattle.text_tables.specs.Seen.{tables_view}
use Rattle.text_tables.proofs.members.behind_key.Goals as goal

pub returns-clause-at : goal.returns-clause-at
returns-clause-at c = λ path at.
    let t = tables_view c.args.tables.now in
    c.at_key.ensures.at t path (kind_of t.names (type_view c.args.keys.now)) at c.in_ok-ty.ensures
