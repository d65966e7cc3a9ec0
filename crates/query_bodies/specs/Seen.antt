-- What the bodies of queries are seen as.
use Rattle.std.specs.Prelude.{ℕ, List, Option, None, map, option_map, slice_get, unwrap_or}
use Rattle.query_bodies.specs.declared.bodies.Bodies.{Bodies}
use Rattle.query_bodies.specs.declared.bodies.QueryBody.{QueryBody}
use Rattle.query_bodies.specs.Terms.{Said}
use Rattle.query_bodies.specs.Measures.{Measured, Known}
use Rattle.query_bodies.specs.Views.{body_view}

-- the body of a query, and what was measured of it
pub record SeenBody : Type 0 where
  pub said : Said
  pub measured : Measured

abbrev pub seen_body : QueryBody → SeenBody
seen_body q = record { said = body_view q.body; measured = record { facts = q.facts; params = q.params.items } }

abbrev pub seen_bodies : List (Option QueryBody) → List (Option SeenBody)
seen_bodies items = map (option_map seen_body) items

abbrev pub bodies_view : Bodies → List (Option SeenBody)
bodies_view b = seen_bodies b.items

abbrev pub body_in : Bodies → ℕ → Option SeenBody
body_in b decl = unwrap_or (slice_get (bodies_view b) decl) None

abbrev pub known_in : Bodies → Known
known_in b decl = option_map (λ it. it.measured) (body_in b decl)

abbrev pub saids_in : Bodies → List (Option Said)
saids_in b = map (option_map (λ it. it.said)) (bodies_view b)
