use Rattle.std.proofs.Common.{◌≡◌, List, ◌++◌, drop}
use Rattle.rp_grammar.specs.Trees.{ProcTree}
use Rattle.rp_ast.specs.View.{decls_view}
use Rattle.text_tables.specs.means.Kept.{AreProcs, procs_in}
use Rattle.text_tables.proofs.procs.ProcTable.of.Given as goal

abbrev pub invariant-loop-decl : goal.invariant-loop-decl
invariant-loop-decl l =
    (before : List ProcTree) × AreProcs before l.table.numbers l.table.count
    × (before ++ procs_in (decls_view (drop l.decl-index l.decls)) ≡ procs_in (decls_view l.decls))
