use Rattle.std.proofs.Common.{take}
use Rattle.rp_ast.specs.View.{fields_view}
use Rattle.type_tables.specs.Tables.{number_in}
use Rattle.text_names.specs.Parts.{AreFields, IsLonger, trees_of}
use Rattle.text_names.proofs.parts.Parts.+parts.Given as goal

abbrev pub invariant-add_fields-loop-field : goal.invariant-add_fields-loop-field
invariant-add_fields-loop-field l = record {
  found : AreFields (trees_of l.self.items) (number_in l.places) (fields_view (take l.field-index l.fields));
  keeps : IsLonger (trees_of l.fn.self.items) (trees_of l.self.items);
}
