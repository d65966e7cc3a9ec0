use Rattle.std.proofs.Common.{◌≡◌, map, take}
use Rattle.rp_ast.specs.View.{decls_view}
use Rattle.text_names.specs.Parts.{AreWithin, crdt_in, roots_seen, trees_of}
use Rattle.text_names.proofs.roots.Roots.of.Given as goal

abbrev pub invariant-loop-decl : goal.invariant-loop-decl
invariant-loop-decl l = record {
  within : AreWithin (trees_of l.parts.items) l.places;
  seen : roots_seen (trees_of l.parts.items) l.places ≡ map crdt_in (decls_view (take l.decl-index l.decls));
}
