use Rattle.std.proofs.Common.{◌≡◌, drop}
use Rattle.rp_ast.specs.View.{fields_view}
use Rattle.desugaring.specs.Appearances.{fields_kinds}
use Rattle.text_names.specs.Declarations.{names_view}
use Rattle.text_kinds.specs.Seen.{kinds_view}
use Rattle.text_kinds.specs.Numbered.{with_kinds}
use Rattle.text_kinds.proofs.table.KindTable.+crdts.Given as goal

abbrev pub invariant-add_in_fields-loop-field : goal.invariant-add_in_fields-loop-field
invariant-add_in_fields-loop-field l = record {
  names : names_view l.self.names.now ≡ names_view l.fn.self.names.now;
  comes : with_kinds (fields_kinds (names_view l.fn.self.names.now) (fields_view (drop l.field-index l.fields)))
      (kinds_view l.self)
      ≡ with_kinds (fields_kinds (names_view l.fn.self.names.now) (fields_view l.fields)) (kinds_view l.fn.self);
}
