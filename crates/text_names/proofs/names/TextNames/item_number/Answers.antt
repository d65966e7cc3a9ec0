use Rattle.std.proofs.Common.{ap, sym, ◌∙◌}
use Rattle.std.proofs.lemmas.Simd.{map-map}
use Rattle.type_rules.specs.Names.{Entry}
use Rattle.type_tables.specs.Tables.{place_from}
use Rattle.text_names.specs.Views.{item_view}
use Rattle.text_names.proofs.names.TextNames.item_number.Goals as goal

pub returns : goal.returns
returns c =
    let names = c.args.self.now in
    let name = c.args.name.now in
    c.number.ensures ∙ names.indexed.items_found name
    ∙ ap (λ all. place_from 0 all name) (sym (map-map (λ (e : Entry). e.name) item_view names.items))
