use Rattle.std.proofs.Common.{◌≡◌, drop}
use Rattle.rp_ast.specs.View.{params_view}
use Rattle.type_rules.specs.Kinds.{param_kinds}
use Rattle.text_tables.specs.Seen.{tables_view}
use Rattle.text_tables.specs.means.Limited.{sum_told}
use Rattle.text_tables.proofs.tables.Tables.with_field_parts.Given as goal

abbrev pub invariant-loop-field : goal.invariant-loop-field
invariant-loop-field l =
    let t = tables_view l.self in
    sum_told t l.before l.sum (param_kinds t.names (params_view (drop l.field-index l.fields)))
    ≡ sum_told t l.before l.parts (param_kinds t.names (params_view l.fields))
