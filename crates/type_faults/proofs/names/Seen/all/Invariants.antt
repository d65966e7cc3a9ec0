use Rattle.std.proofs.Common.{drop}
use Rattle.rp_ast.specs.View.{decls_view}
use Rattle.type_rules.specs.Names.{Names}
use Rattle.type_rules.specs.TextSites.{Seen}
use Rattle.type_faults.specs.Texts.{AreSeen}
use Rattle.type_faults.proofs.Named.{DeclsNamed}
use Rattle.type_faults.proofs.names.Seen.all.Given as goal

abbrev pub invariant-loop-decl : goal.invariant-loop-decl
invariant-loop-decl l =
    (n : Names) (seen : Seen) → AreSeen l.fn.self seen
    → DeclsNamed n l.self l.best seen (decls_view (drop l.decl-index l.decls)) (decls_view l.decls)
