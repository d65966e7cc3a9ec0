use Rattle.std.proofs.Common.{rules, ◌≡◌, false, Some, ap, sym, ◌∙◌}
use Rattle.std.specs.Option.{is_some}
use Rattle.std.specs.Map.{update}
use Rattle.type_rules.specs.Names.{same_name}
use Rattle.type_tables.specs.Tables.{number_in}
use Rattle.type_tables.proofs.Held.{held_updates, first_new}
use Rattle.type_tables.proofs.table.NameTable.add.Goals as goal

pub returns-in_ok-insert-clause-ok : goal.returns-in_ok-insert-clause-ok
returns-in_ok-insert-clause-ok c =
    let new : is_some (number_in c.args.self.now c.args.name.now) ≡ false = search rules in
    held_updates c.args.name.now c.self.inside.numbers c.insert.new.self _ c.in_ok-insert.ensures.updates
    ∙ ap (λ es. update same_name (number_in es) c.args.name.now (Some c.args.number)) c.self.view_is
    ∙ sym (first_new (number_in c.args.self.now) c.args.name.now c.args.number new)
