use Rattle.std.proofs.Common.{ap, sym, ◌∙◌}
use Rattle.type_tables.specs.Tables.{number_in}
use Rattle.type_tables.proofs.Held.{held}
use Rattle.type_tables.proofs.table.NameTable.number.Goals as goal

pub returns : goal.returns
returns c =
    c.copied.ensures ∙ c.get.ensures.value ∙ sym (held c.args.name.now c.self.inside.numbers)
    ∙ ap (λ es. number_in es c.args.name.now) c.self.view_is
