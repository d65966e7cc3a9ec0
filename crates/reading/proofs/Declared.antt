-- What the declarations of a text add to the bodies of its queries.
use Rattle.std.proofs.Common.{◌≡◌, ℕ, zero, suc, ◌<◌, List, [], ◌∷◌, ◌++◌, length, map, get_or, Option, Some, None, Result, Ok, Err, refl, ap, sym, subst, ◌∙◌, arith}
use Rattle.std.specs.Prelude.{OnOk, option_map, slice_get, unwrap_or}
use Rattle.std.proofs.lemmas.List.{length-map, map_push}
use Rattle.rp_span.specs.declared.Span.{Span}
use Rattle.rp_ast.specs.declared.decl.DeclForm as code_decl
use Rattle.rp_ast.specs.declared.decl.DeclForm.TheVariants as code_form
use Rattle.rp_ast.specs.declared.decl.QueryNode.{QueryNode}
use Rattle.rp_grammar.specs.Trees.{DeclForm, DeclTree, QueryTree}
use Rattle.rp_ast.specs.declared.decl.Decl.{Decl}
use Rattle.rp_ast.specs.View.{decl_form_view, decl_view, decls_view, param_view, query_view}
use Rattle.type_rules.specs.Accesses.{query_params}
use Rattle.desugaring.specs.Tables.{Tables}
use Rattle.query_bodies.specs.Terms.{Said}
use Rattle.query_bodies.specs.Expanded.{uses_of}
use Rattle.query_bodies.specs.Measures.{Measured, measured}
use Rattle.query_bodies.specs.Seen.{SeenBody, bodies_view, known_in, saids_in}
use Rattle.query_bodies.specs.declared.bodies.Bodies.{Bodies}
use Rattle.query_laws.specs.Told.{IsNextAdded}
use Rattle.query_laws.specs.Whole.{IsNext, IsSaidBody}
use Rattle.query_laws.proofs.Bodies.{body_said, said_before, said_last}
use Rattle.reading.specs.Bodies.{AddsDecl, GivesBody, body_with}

pub decl_at : (decls : List Decl) (i : ℕ) (d : Decl) → i < length decls → d ≡ get_or decls i d
    → slice_get (decls_view decls) i ≡ Some (decl_view d)
decl_at [] i d h e = absurd (omega (arith, h))
decl_at (x ∷ xs) zero d h e = ap (λ (y : Decl). Some (decl_view y)) (sym e)
decl_at (x ∷ xs) (suc i) d h e = decl_at xs i d (omega (arith, h)) e

pub on_ok : {X E : Type 0} {P Q : Type 0} (r : Result X E) → (P → Q) → OnOk r P → OnOk r Q
on_ok (Ok x) f p = f p
on_ok (Err e) f p = p

-- # One more is seen behind those before

abbrev said_of : Option SeenBody → Option Said
said_of o = option_map (λ (it : SeenBody). it.said) o

abbrev measured_of : Option SeenBody → Option Measured
measured_of o = option_map (λ (it : SeenBody). it.measured) o

pub said_more : (old new : Bodies) (x : Option SeenBody) → bodies_view new ≡ bodies_view old ++ x ∷ []
    → saids_in new ≡ saids_in old ++ said_of x ∷ []
said_more old new x e = ap (map said_of) e ∙ map_push said_of (bodies_view old) x

seen_count : (b : Bodies) → length (saids_in b) ≡ length (bodies_view b)
seen_count b = length-map (bodies_view b) said_of

-- what is known of those before is known as it was
pub known_before : (old new : Bodies) (x : Option SeenBody) → bodies_view new ≡ bodies_view old ++ x ∷ []
    → (d : ℕ) → d < length (saids_in old) → known_in new d ≡ known_in old d
known_before old new x e d lt =
    let count = seen_count old in
    ap (λ (seen : List (Option SeenBody)). measured_of (unwrap_or (slice_get seen d) None)) e
    ∙ ap measured_of (said_before (bodies_view old) (x ∷ []) d (omega (arith, lt, count)))

known_last : (old new : Bodies) (x : Option SeenBody) → bodies_view new ≡ bodies_view old ++ x ∷ []
    → known_in new (length (saids_in old)) ≡ measured_of x
known_last old new x e =
    ap (λ (seen : List (Option SeenBody)). measured_of (unwrap_or (slice_get seen (length (saids_in old))) None)) e
    ∙ ap measured_of (said_last (bodies_view old) x (length (saids_in old)) (seen_count old))

-- # What the declaration at this place gives is the next

-- what a declaration gives is that of a query
record GivesQuery (t : Tables) (old : Bodies) (d : DeclTree) (o : Option SeenBody) : Type 0 where
  at : Span
  query : QueryTree
  is : d ≡ DeclTree.node at (DeclForm.query query)
  said : Said
  there : o ≡ Some (body_with (known_in old) query said)

nothing_given : {P : Type 0} (o : Option SeenBody) (s : Said) → o ≡ None → said_of o ≡ Some s → P
nothing_given o s none some = let gone = ap said_of none in absurd cc

given_query : (t : Tables) (old : Bodies) (d : DeclTree) (o : Option SeenBody) (s : Said) → GivesBody t old d o
    → said_of o ≡ Some s → GivesQuery t old d o
given_query t old (DeclTree.node span (DeclForm.query q)) o s gives some =
    record { at = span; query = q; is = refl; said = gives.0; there = gives.1 }
given_query t old (DeclTree.node span (DeclForm.id_type x)) o s gives some = nothing_given o s gives some
given_query t old (DeclTree.node span (DeclForm.opaque x)) o s gives some = nothing_given o s gives some
given_query t old (DeclTree.node span (DeclForm.datatype x cons)) o s gives some = nothing_given o s gives some
given_query t old (DeclTree.node span (DeclForm.crdt x c)) o s gives some = nothing_given o s gives some
given_query t old (DeclTree.node span (DeclForm.invariant x e)) o s gives some = nothing_given o s gives some
given_query t old (DeclTree.node span (DeclForm.proc p)) o s gives some = nothing_given o s gives some

query_given : (t : Tables) (old : Bodies) (d : DeclTree) (o : Option SeenBody) (q : QueryTree) → GivesBody t old d o
    → (at : Span) → d ≡ DeclTree.node at (DeclForm.query q)
    → (s : Said) × (o ≡ Some (body_with (known_in old) q s)) × IsSaidBody t (uses_of old) q s
query_given t old d o q gives at is = subst (λ (d : DeclTree). GivesBody t old d o) is gives

pub is_next : (t : Tables) (tree : List DeclTree) (old : Bodies) (i : ℕ) (d : DeclTree) (o : Option SeenBody)
    → length (saids_in old) ≡ i → slice_get tree i ≡ Some d → GivesBody t old d o → IsNext t tree (saids_in old) (said_of o)
is_next t tree old i d o count there gives q at =
    let both : Some d ≡ Some (DeclTree.node at.0 (DeclForm.query q)) = sym there ∙ ap (slice_get tree) (sym count) ∙ at.1 in
    let same : d ≡ DeclTree.node at.0 (DeclForm.query q) = cc in
    let found = query_given t old d o q gives at.0 same in
    (found.0, ap said_of found.1, body_said t (uses_of old) q found.0 found.2)

pub is_next_added : (t : Tables) (tree : List DeclTree) (old new : Bodies) (i : ℕ) (d : DeclTree) (adds : AddsDecl t d old new)
    → length (saids_in old) ≡ i → slice_get tree i ≡ Some d
    → (s : Said) → said_of adds.next ≡ Some s → IsNextAdded tree (saids_in old) (known_in old) (known_in new) s
is_next_added t tree old new i d adds count there s some =
    let found = given_query t old d adds.next s adds.gives some in
    let same : found.said ≡ s = let both = sym (ap said_of found.there) ∙ some in cc in
    record {
      query = found.query;
      there = (found.at, ap (slice_get tree) count ∙ there ∙ ap Some found.is);
      is = known_last old new adds.next adds.behind ∙ ap measured_of found.there
          ∙ ap (λ s. Some (measured (known_in old) (length (query_params found.query)) s)) same;
    }

-- # What each declaration adds

pub none_added : (t : Tables) (d : Decl) (w : code_decl.DeclForm) (old new : Bodies) → d.what ≡ w
    → ((at : Span) → GivesBody t old (DeclTree.node at (decl_form_view w)) None)
    → bodies_view new ≡ bodies_view old ++ None ∷ [] → AddsDecl t (decl_view d) old new
none_added t d w old new is gives e = record {
  next = None;
  behind = e;
  gives = subst (λ (w : code_decl.DeclForm). GivesBody t old (DeclTree.node d.span (decl_form_view w)) None) (sym is) (gives d.span);
}

pub query_added : (t : Tables) (d : Decl) (q : QueryNode) (n : ℕ) (s : Said) (old new : Bodies) → d.what ≡ code_form.Query q
    → n ≡ length q.params → IsSaidBody t (uses_of old) (query_view q) s
    → bodies_view new ≡ bodies_view old ++ Some (record { said = s; measured = measured (known_in old) n s }) ∷ []
    → AddsDecl t (decl_view d) old new
query_added t d q n s old new is count says e =
    let many : n ≡ length (query_params (query_view q)) = count ∙ sym (length-map q.params param_view) in
    record {
      next = Some (body_with (known_in old) (query_view q) s);
      behind = e ∙ ap (λ n. bodies_view old ++ Some (record { said = s; measured = measured (known_in old) n s }) ∷ []) many;
      gives = subst (λ (w : code_decl.DeclForm). GivesBody t old (DeclTree.node d.span (decl_form_view w))
          (Some (body_with (known_in old) (query_view q) s))) (sym is) (s, refl, says);
    }
