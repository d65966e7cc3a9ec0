use Rattle.std.proofs.Common.{drop}
use Rattle.rp_ast.specs.View.{decls_view}
use Rattle.text_tables.specs.Seen.{tables_view}
use Rattle.text_tables.specs.declared.members.Members.{Members}
use Rattle.text_tables.specs.means.Rooted.{DeclaresRoots, roots_in, starting}
use Rattle.text_tables.proofs.members.members_of.Given as goal

abbrev pub invariant-loop-decl : goal.invariant-loop-decl
invariant-loop-decl l =
    let t = tables_view l.tables in
    (new : Members) → DeclaresRoots t l.root (roots_in (decls_view (drop l.decl-index l.decls))) l.members new
    → DeclaresRoots t 0 (roots_in (decls_view l.decls)) starting new
