use Rattle.std.proofs.Common.{drop}
use Rattle.rp_ast.specs.View.{decls_view}
use Rattle.resolve.proofs.Declaring.{Ends}
use Rattle.resolve.proofs.decls.declare_all.Given as goal

abbrev pub invariant-loop-decl : goal.invariant-loop-decl
invariant-loop-decl l = Ends l.work l.initial.made l.made (decls_view l.decls) (decls_view (drop l.decl-index l.decls))
