use Rattle.std.proofs.Common.{◌≡◌, drop}
use Rattle.rp_ast.specs.View.{fields_view}
use Rattle.rp_lang.specs.Views.{crdt_field_view}
use Rattle.desugaring.specs.Tables.{fields_cr}
use Rattle.std.proofs.Common.{map}
use Rattle.std.specs.Option.{option_map}
use Rattle.text_tables.specs.Seen.{tables_view}
use Rattle.text_tables.specs.means.Rooted.{behind_fields}
use Rattle.text_tables.proofs.tables.Tables.+crdts.Given as goal

abbrev pub invariant-fields-loop-field : goal.invariant-fields-loop-field
invariant-fields-loop-field l =
    let t = tables_view l.self in
    option_map (behind_fields (map crdt_field_view l.made)) (fields_cr t (fields_view (drop l.field-index l.fields)))
    ≡ fields_cr t (fields_view l.fields)
