-- What a declaration adds to the bodies of queries.
use Rattle.std.specs.Prelude.{◌≡◌, [], ◌∷◌, ◌++◌, length, Option, Some, None}
use Rattle.rp_grammar.specs.Trees.{DeclForm, DeclTree, QueryTree}
use Rattle.type_rules.specs.Accesses.{query_params}
use Rattle.desugaring.specs.Tables.{Tables}
use Rattle.query_bodies.specs.Expanded.{uses_of}
use Rattle.query_bodies.specs.Measures.{Known, measured}
use Rattle.query_bodies.specs.Seen.{SeenBody, bodies_view, known_in}
use Rattle.query_bodies.specs.Terms.{Said}
use Rattle.query_bodies.specs.declared.bodies.Bodies.{Bodies}
use Rattle.query_laws.specs.Whole.{IsSaidBody}

-- the query's body says this, and is measured over its parameters
abbrev pub body_with : Known → QueryTree → Said → SeenBody
body_with k q s = record { said = s; measured = measured k (length (query_params q)) s }

-- what a declaration gives, if it is a query; where the bodies before it are these
abbrev pub GivesBody : Tables → Bodies → DeclTree → Option SeenBody → Type 0
GivesBody t old (DeclTree.node at (DeclForm.query q)) o =
    (s : Said) × (o ≡ Some (body_with (known_in old) q s)) × IsSaidBody t (uses_of old) q s
GivesBody t old (DeclTree.node at (DeclForm.id_type x)) o = o ≡ None
GivesBody t old (DeclTree.node at (DeclForm.opaque x)) o = o ≡ None
GivesBody t old (DeclTree.node at (DeclForm.datatype x cons)) o = o ≡ None
GivesBody t old (DeclTree.node at (DeclForm.crdt x c)) o = o ≡ None
GivesBody t old (DeclTree.node at (DeclForm.invariant x e)) o = o ≡ None
GivesBody t old (DeclTree.node at (DeclForm.proc p)) o = o ≡ None

pub record AddsDecl (t : Tables) (d : DeclTree) (old new : Bodies) : Type 0 where
  pub next : Option SeenBody
  pub behind : bodies_view new ≡ bodies_view old ++ next ∷ []
  pub gives : GivesBody t old d next
