-- The bodies of queries at their places.
use Rattle.std.proofs.Common.{◌≡◌, ℕ, zero, suc, ◌≤◌, List, [], ◌∷◌, ◌++◌, map, length, Option, Some, None, slice_get, option_map, unwrap_or, refl, ap, ◌∙◌, arith}
use Rattle.std.proofs.lemmas.List.{map_push, length-map}
use Rattle.query_bodies.specs.declared.bodies.Bodies.{Bodies}
use Rattle.query_bodies.specs.declared.bodies.QueryBody.{QueryBody}
use Rattle.query_bodies.specs.Expanded.{said_at}
use Rattle.query_bodies.specs.Seen.{SeenBody, seen_body, seen_bodies, bodies_view, body_in, saids_in}

pub seen_there : (items : List (Option QueryBody)) (i : ℕ) (item : Option QueryBody) → slice_get items i ≡ Some item
    → unwrap_or (slice_get (seen_bodies items) i) None ≡ option_map seen_body item
seen_there [] i item e = absurd cc
seen_there (q ∷ items) zero item e = ap (λ o. option_map seen_body (unwrap_or o None)) e
seen_there (q ∷ items) (suc i) item e = seen_there items i item e

pub seen_past : (items : List (Option QueryBody)) (i : ℕ) → length items ≤ i → unwrap_or (slice_get (seen_bodies items) i) None
    ≡ None
seen_past [] i le = refl
seen_past (q ∷ items) zero le = absurd (omega (arith, le))
seen_past (q ∷ items) (suc i) le = seen_past items i (omega (arith, le))

pub seen_more : (items : List (Option QueryBody)) (item : Option QueryBody) → seen_bodies (items ++ item ∷ [])
    ≡ seen_bodies items ++ option_map seen_body item ∷ []
seen_more items item = map_push (option_map seen_body) items item

said_in : (seen : List (Option SeenBody)) (i : ℕ) → said_at (map (option_map (λ (it : SeenBody). it.said)) seen) i
    ≡ option_map (λ (it : SeenBody). it.said) (unwrap_or (slice_get seen i) None)
said_in [] i = refl
said_in (o ∷ seen) zero = refl
said_in (o ∷ seen) (suc i) = said_in seen i

pub said_seen : (b : Bodies) (decl : ℕ) → said_at (saids_in b) decl ≡ option_map (λ (it : SeenBody). it.said) (body_in b decl)
said_seen b decl = said_in (bodies_view b) decl

pub said_count : (b : Bodies) → length (saids_in b) ≡ length b.items
said_count b = length-map (bodies_view b) (option_map (λ (it : SeenBody). it.said)) ∙ length-map b.items (option_map seen_body)

pub ruleset body_lemmas = (seen_more, said_seen, said_count, seen_there, seen_past)
