use Rattle.std.proofs.Common.{◌≡◌, [], drop}
use Rattle.std.specs.List.{flat_map}
use Rattle.desugaring.specs.Tables.{con_decl, cons_of}
use Rattle.text_tables.specs.Seen.{tables_view}
use Rattle.text_tables.specs.means.Grown.{grown}
use Rattle.text_tables.proofs.tables.Tables.con_table.Given as goal

abbrev pub invariant-loop-kind : goal.invariant-loop-kind
invariant-loop-kind l =
    let t = tables_view l.self in
    grown (con_decl t) l.cons (flat_map (cons_of t.names) (drop l.kind-index t.datatypes))
    ≡ grown (con_decl t) [] (flat_map (cons_of t.names) t.datatypes)
