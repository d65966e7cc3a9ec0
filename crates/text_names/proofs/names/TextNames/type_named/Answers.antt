use Rattle.std.proofs.Common.{ap, map, sym, ◌∙◌}
use Rattle.std.specs.List.{slice_get}
use Rattle.std.specs.Option.{option_and_then}
use Rattle.text_names.specs.Views.{type_item_view}
use Rattle.text_names.proofs.Entries.{named_type}
use Rattle.text_names.proofs.names.TextNames.type_named.Goals as goal

pub returns-in-Some : goal.returns-in-Some
returns-in-Some c =
    let types = c.args.self.now.types in
    c.type_at.ensures
    ∙ ap (option_and_then (slice_get (map type_item_view types))) (sym c.in-Some.is ∙ c.type_number.ensures)
    ∙ named_type types c.args.name.now

pub returns-in-None : goal.returns-in-None
returns-in-None c =
    let types = c.args.self.now.types in
    ap (option_and_then (slice_get (map type_item_view types))) (sym c.in-None.is ∙ c.type_number.ensures)
    ∙ named_type types c.args.name.now
