use Rattle.std.proofs.Common.{drop}
use Rattle.rp_ast.specs.View.{fields_view}
use Rattle.text_tables.specs.declared.object.ObjectTable.{ObjectTable}
use Rattle.text_tables.specs.means.Walked.{AddsFields}
use Rattle.text_tables.proofs.object.ObjectTable.+objects.Given as goal

abbrev pub invariant-add_fields-loop-field : goal.invariant-add_fields-loop-field
invariant-add_fields-loop-field l =
    (new : ObjectTable) → AddsFields l.self (fields_view (drop l.field-index l.fields)) new
    → AddsFields l.fn.self (fields_view l.fields) new
