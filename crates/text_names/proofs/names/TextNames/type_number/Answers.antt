use Rattle.std.proofs.Common.{◌∙◌}
use Rattle.text_names.proofs.Entries.{type_place}
use Rattle.text_names.proofs.names.TextNames.type_number.Goals as goal

pub returns : goal.returns
returns c =
    let names = c.args.self.now in
    let name = c.args.name.now in
    c.number.ensures ∙ names.indexed.types_found name ∙ type_place 0 names.types name
