use Rattle.std.proofs.Common.{◌≡◌, length}
use Rattle.rp_ast.specs.View.{decls_view}
use Rattle.text_tables.specs.Seen.{tables_view}
use Rattle.query_bodies.specs.Seen.{known_in, saids_in}
use Rattle.query_laws.specs.Told.{AreAdded}
use Rattle.query_laws.specs.Whole.{AreBodiesOf}
use Rattle.reading.proofs.queries.lower_queries.Given as goal

abbrev pub invariant-loop-decl : goal.invariant-loop-decl
invariant-loop-decl l =
    AreBodiesOf (tables_view l.tables) (decls_view l.decls) (saids_in l.bodies)
    × AreAdded (decls_view l.decls) (saids_in l.bodies) (known_in l.bodies)
    × (length (saids_in l.bodies) ≡ l.decl-index)
