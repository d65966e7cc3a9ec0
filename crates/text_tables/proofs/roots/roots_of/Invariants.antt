use Rattle.std.proofs.Common.{◌≡◌, [], drop, map}
use Rattle.rp_ast.specs.View.{decls_view}
use Rattle.rp_lang.specs.Views.{root_view}
use Rattle.desugaring.specs.Tables.{root_of}
use Rattle.text_tables.specs.Seen.{tables_view}
use Rattle.text_tables.specs.means.Grown.{grown}
use Rattle.text_tables.specs.means.Rooted.{roots_in}
use Rattle.text_tables.proofs.roots.roots_of.Given as goal

abbrev pub invariant-loop-decl : goal.invariant-loop-decl
invariant-loop-decl l =
    let t = tables_view l.tables in
    grown (root_of t) (map root_view l.roots) (roots_in (decls_view (drop l.decl-index l.decls)))
    ≡ grown (root_of t) [] (roots_in (decls_view l.decls))
