use Rattle.std.proofs.Common.{◌≡◌, drop}
use Rattle.std.specs.List.{list_any}
use Rattle.rp_ast.specs.View.{decls_view}
use Rattle.text_tables.specs.means.Counted.{crdts_in}
use Rattle.text_tables.specs.means.Limited.{is_long_on}
use Rattle.text_tables.proofs.paths.has_long_path.Given as goal

abbrev pub invariant-loop-decl : goal.invariant-loop-decl
invariant-loop-decl l =
    list_any (is_long_on 0) (crdts_in (decls_view l.decls))
    ≡ list_any (is_long_on 0) (crdts_in (decls_view (drop l.decl-index l.decls)))
