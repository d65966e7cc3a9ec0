use Rattle.std.proofs.Common.{◌≡◌, drop}
use Rattle.rp_ast.specs.View.{fields_view}
use Rattle.text_tables.specs.means.Limited.{is_long_in_fields}
use Rattle.text_tables.proofs.paths.+long.Given as goal

abbrev pub invariant-is_long_in-loop-field : goal.invariant-is_long_in-loop-field
invariant-is_long_in-loop-field l =
    is_long_in_fields l.depth (fields_view l.fields) ≡ is_long_in_fields l.depth (fields_view (drop l.field-index l.fields))
