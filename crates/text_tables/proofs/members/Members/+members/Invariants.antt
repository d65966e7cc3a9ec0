use Rattle.std.proofs.Common.{List, drop}
use Rattle.rp_ast.specs.View.{fields_view}
use Rattle.desugaring.specs.Objects.{KindStep}
use Rattle.text_tables.specs.Seen.{tables_view}
use Rattle.text_tables.specs.declared.members.Members.{Members}
use Rattle.text_tables.specs.means.Rooted.{DeclaresFields, IsAt}
use Rattle.text_tables.proofs.members.Members.+members.Given as goal

abbrev pub invariant-add_fields-loop-field : goal.invariant-add_fields-loop-field
invariant-add_fields-loop-field l =
    let t = tables_view l.tables in
    (path : List KindStep) (new : Members) → IsAt t path l.spot
    → DeclaresFields t l.spot.root path l.number (fields_view (drop l.field-index l.fields)) l.self new
    → DeclaresFields t l.spot.root path 0 (fields_view l.fields) l.fn.self new
