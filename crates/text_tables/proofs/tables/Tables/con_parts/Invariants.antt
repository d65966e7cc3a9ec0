use Rattle.std.proofs.Common.{◌≡◌, drop, map}
use Rattle.rp_ast.specs.View.{con_view}
use Rattle.type_rules.specs.Matches.{con_case}
use Rattle.text_tables.specs.Seen.{tables_view}
use Rattle.text_tables.specs.means.Limited.{fields_of, sum_told}
use Rattle.text_tables.proofs.tables.Tables.con_parts.Given as goal

abbrev pub invariant-loop-con : goal.invariant-loop-con
invariant-loop-con l =
    let t = tables_view l.self in
    sum_told t l.before l.sum (fields_of (map (con_case t.names) (map con_view (drop l.con-index l.cons))))
    ≡ sum_told t l.before 1 (fields_of (map (con_case t.names) (map con_view l.cons)))
