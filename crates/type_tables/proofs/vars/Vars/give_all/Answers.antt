use Rattle.std.proofs.Common.{map, ap, ◌∙◌}
use Rattle.type_rules.specs.Flow.{with_value}
use Rattle.type_tables.specs.Variables.{vars_seen}
use Rattle.type_tables.proofs.Seen.{fill_seen}
use Rattle.type_tables.proofs.vars.Vars.give_all.Goals as goal

pub returns : goal.returns
returns c =
    let items = c.self.inside.items.items in
    ap (vars_seen items) c.fill.ensures ∙ fill_seen items c.self.inside.set ∙ ap (map with_value) c.self.view_is
