use Rattle.std.proofs.Common.{◌≡◌, drop, map}
use Rattle.rp_ast.specs.View.{con_view}
use Rattle.type_rules.specs.Matches.{con_case}
use Rattle.desugaring.specs.Tables.{con_decl}
use Rattle.text_tables.specs.Seen.{tables_view}
use Rattle.text_tables.specs.means.Cases.{cons_with}
use Rattle.text_tables.specs.means.Grown.{grown}
use Rattle.text_tables.proofs.tables.Tables.declared_cons.Given as goal

abbrev pub invariant-loop-con : goal.invariant-loop-con
invariant-loop-con l =
    let t = tables_view l.self in
    grown (con_decl t) l.cons (cons_with l.kind (map (con_case t.names) (map con_view (drop l.con-index l.declared))))
    ≡ grown (con_decl t) l.initial.cons (cons_with l.kind (map (con_case t.names) (map con_view l.declared)))
