use Rattle.std.proofs.Common.{◌≡◌, map}
use Rattle.rp_ast.specs.View.{decls_view}
use Rattle.text_names.specs.Declarations.{names_view}
use Rattle.text_names.specs.Parts.{crdt_in, roots_seen, trees_of}
use Rattle.text_names.proofs.Entries.{IsDeclared}
use Rattle.text_names.proofs.names.TextNames.declared_in.Given as goal

abbrev pub invariant-loop-number : goal.invariant-loop-number
invariant-loop-number l =
    roots_seen (trees_of l.roots.parts.items) l.roots.places ≡ map crdt_in (decls_view l.decls)
    → IsDeclared (names_view l.names) l.number (decls_view l.decls)
