use Rattle.std.proofs.Common.{◌≡◌, drop}
use Rattle.rp_ast.specs.View.{decls_view}
use Rattle.text_names.specs.Declarations.{names_view}
use Rattle.text_kinds.specs.Seen.{kinds_view}
use Rattle.text_kinds.specs.Numbered.{with_kinds}
use Rattle.text_kinds.specs.means.Brought.{decls_bring}
use Rattle.text_kinds.proofs.appearances.Seeker.decls.Given as goal

abbrev pub invariant-loop-decl : goal.invariant-loop-decl
invariant-loop-decl l = record {
  names : names_view l.self.kinds.names.now ≡ names_view l.fn.self.kinds.names.now;
  comes : with_kinds (decls_bring (names_view l.fn.self.kinds.names.now) l.types (decls_view (drop l.decl-index l.decls)))
      (kinds_view l.self.kinds)
      ≡ with_kinds (decls_bring (names_view l.fn.self.kinds.names.now) 0 (decls_view l.decls)) (kinds_view l.fn.self.kinds);
}
