use Rattle.std.proofs.Common.{drop}
use Rattle.rp_ast.specs.View.{decls_view}
use Rattle.text_tables.specs.declared.object.ObjectTable.{ObjectTable}
use Rattle.text_tables.specs.means.Counted.{crdts_in}
use Rattle.text_tables.specs.means.Kept.{AreObjects}
use Rattle.text_tables.specs.means.Walked.{AddsRoots}
use Rattle.text_tables.proofs.object.ObjectTable.of.Given as goal

abbrev pub invariant-loop-decl : goal.invariant-loop-decl
invariant-loop-decl l =
    (new : ObjectTable) → AddsRoots l.table (crdts_in (decls_view (drop l.decl-index l.decls))) new
    → AreObjects (crdts_in (decls_view l.decls)) new.objects new.ops new.roots
