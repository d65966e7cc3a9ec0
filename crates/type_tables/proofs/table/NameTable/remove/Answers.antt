use Rattle.std.proofs.Common.{ap, sym, ◌∙◌, eq-eqb}
use Rattle.std.specs.Map.{update}
use Rattle.std.specs.Prelude.{None, if◌then◌else◌}
use Rattle.type_rules.specs.Names.{same_name}
use Rattle.type_tables.specs.Tables.{has_number, number_in}
use Rattle.type_tables.proofs.Held.{held_updates}
use Rattle.type_tables.proofs.table.NameTable.remove.Goals as goal

pub returns-then-own-number : goal.returns-then-own-number
returns-then-own-number c =
    let name = c.args.name.now in
    let table = number_in c.args.self.now in
    held_updates name c.self.inside.numbers c.swap_remove.new.self _ c.swap_remove.ensures.updates
    ∙ ap (λ es. update same_name (number_in es) name None) c.self.view_is
    ∙ ap (λ q. if q then update same_name table name None else table)
    (sym (ap (λ o. has_number o c.args.number) (sym c.number.ensures ∙ c.in-Some.is)
    ∙ eq-eqb c.in-Some.own c.args.number c.if-own-number.true))
