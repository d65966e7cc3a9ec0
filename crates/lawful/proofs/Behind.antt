-- The places of one declaration of a text, and what the declarations behind it use.
use Rattle.std.proofs.Common.{◌≡◌, ◌+◌, ◌<◌, ℕ, zero, suc, Bool, true, false, cond, List, [], ◌∷◌, ◌++◌, Some, ap, subst, sym, ◌∙◌, arith}
use Rattle.std.specs.Prelude.{nat_eq, slice_get}
use Rattle.std.specs.List.{AllByRecursion}
use Rattle.std.proofs.lemmas.Bool.{or_left, or_right}
use Rattle.std.proofs.lemmas.List.Folds.{list_any-append}
use Rattle.rp_span.specs.declared.Span.{Span}
use Rattle.rp_grammar.specs.Trees.{QueryTree, DeclForm, DeclTree}
use Rattle.type_rules.specs.Names.{Names}
use Rattle.type_rules.specs.Queries.{names_of}
use Rattle.type_rules.specs.Sites.{Site}
use Rattle.type_rules.specs.DeclSites.{query_sites, proc_sites}
use Rattle.type_rules.specs.TextSites.{Seen, nothing_seen, with_decl, name_sites, inner_sites, used, used_from, is_number_of, decl_sites, sites_of}
use Rattle.lawful.specs.Kept.{uses_behind, may_speak}
use Rattle.lawful.proofs.Forms.{one}
use Rattle.lawful.proofs.Places.{all_parts}

abbrev pub form_in : DeclTree → DeclForm
form_in (DeclTree.node at form) = form

-- # The places of one declaration

pub decl_parts : (P : Site → Type 0) (n : Names) (seen : Seen) (k : ℕ) (at : Span) (form : DeclForm) (ds : List DeclTree)
    → AllByRecursion P (decl_sites n seen k (DeclTree.node at form ∷ ds))
    → AllByRecursion P (inner_sites n k (used_from n (k + 1) ds) form) × AllByRecursion P (decl_sites n (with_decl seen form) (k + 1) ds)
decl_parts P n seen k at form ds all =
    let p = all_parts P (name_sites seen form ++ inner_sites n k (used_from n (k + 1) ds) form) _ all in
    ((all_parts P (name_sites seen form) _ p.0).1, p.1)

-- what holds at all places of a text holds at those of the declaration at a place
pub inner_there : (P : Site → Type 0) (n : Names) (seen : Seen) (k : ℕ) (ds : List DeclTree) → AllByRecursion P (decl_sites n seen k ds)
    → (i m : ℕ) (at : Span) (form : DeclForm) → k + i ≡ m → slice_get ds i ≡ Some (DeclTree.node at form)
    → AllByRecursion P (inner_sites n m (uses_behind n k ds i) form)
inner_there P n seen k [] all i m at form number there = absurd cc
inner_there P n seen k (DeclTree.node s first ∷ ds) all zero m at form number there =
    let p = decl_parts P n seen k s first ds all in
    let same : k ≡ m = omega (arith, number) in
    let is : first ≡ form = ap form_in (one there) in
    subst (λ j. AllByRecursion P (inner_sites n j (used_from n (k + 1) ds) form)) same
    (subst (λ z. AllByRecursion P (inner_sites n k (used_from n (k + 1) ds) z)) is p.0)
inner_there P n seen k (DeclTree.node s first ∷ ds) all (suc i) m at form number there =
    let p = decl_parts P n seen k s first ds all in
    let next : k + 1 + i ≡ m = omega (arith, number) in
    inner_there P n (with_decl seen first) (k + 1) ds p.1 i m at form next there

pub query_there : (P : Site → Type 0) (tree : List DeclTree) → AllByRecursion P (sites_of (names_of tree) tree)
    → (m : ℕ) (at : Span) (q : QueryTree) → slice_get tree m ≡ Some (DeclTree.node at (DeclForm.query q))
    → AllByRecursion P (query_sites (names_of tree) m (may_speak tree m) q)
query_there P tree all m at q there =
    let number : 0 + m ≡ m = omega arith in
    inner_there P (names_of tree) nothing_seen 0 tree all m m at (DeclForm.query q) number there

-- # Uses

abbrev pub Has : ℕ → List ℕ → Type 0
Has j js = is_number_of j js ≡ true

pub has_left : (j : ℕ) (js ks : List ℕ) → Has j js → Has j (js ++ ks)
has_left j js ks e = list_any-append (nat_eq j) js ks ∙ or_left (is_number_of j js) (is_number_of j ks) e

pub has_right : (j : ℕ) (js ks : List ℕ) → Has j ks → Has j (js ++ ks)
has_right j js ks e = list_any-append (nat_eq j) js ks ∙ or_right (is_number_of j js) (is_number_of j ks) e

-- what is used from the next declaration on is used from this one on
still_used : (n : Names) (k j : ℕ) (at : Span) (form : DeclForm) (ds : List DeclTree) → Has j (used_from n (k + 1) ds)
    → Has j (used_from n k (DeclTree.node at form ∷ ds))
still_used n k j at (DeclForm.query q) ds e =
    by_use j (used n (query_sites n k false q)) (used_from n (k + 1) ds) (is_number_of k (used_from n (k + 1) ds)) e where
      by_use : (j : ℕ) (own behind : List ℕ) (is_used : Bool) → Has j behind → Has j (cond is_used (own ++ behind) behind)
      by_use j own behind true e = has_right j own behind e
      by_use j own behind false e = e
still_used n k j at (DeclForm.proc p) ds e = has_right j (used n (proc_sites n k p)) (used_from n (k + 1) ds) e
still_used n k j at (DeclForm.id_type x) ds e = e
still_used n k j at (DeclForm.opaque x) ds e = e
still_used n k j at (DeclForm.datatype x cons) ds e = e
still_used n k j at (DeclForm.crdt x c) ds e = e
still_used n k j at (DeclForm.invariant x body) ds e = e

-- the declaration of that number uses the query, where the procedures behind it use these: itself, or because they use it
abbrev pub Uses : Names → ℕ → List ℕ → DeclForm → ℕ → Type 0
Uses n m behind (DeclForm.query q) j = Has m behind × Has j (used n (query_sites n m false q))
Uses n m behind (DeclForm.proc p) j = Has j (used n (proc_sites n m p))
Uses n m behind (DeclForm.id_type x) j = ⊥
Uses n m behind (DeclForm.opaque x) j = ⊥
Uses n m behind (DeclForm.datatype x cons) j = ⊥
Uses n m behind (DeclForm.crdt x c) j = ⊥
Uses n m behind (DeclForm.invariant x e) j = ⊥

used_here : (n : Names) (k j : ℕ) (at : Span) (form : DeclForm) (ds : List DeclTree) → Uses n k (used_from n (k + 1) ds) form j
    → Has j (used_from n k (DeclTree.node at form ∷ ds))
used_here n k j at (DeclForm.query q) ds uses =
    let own = used n (query_sites n k false q) in
    let behind = used_from n (k + 1) ds in
    ap (λ b. is_number_of j (cond b (own ++ behind) behind)) uses.0 ∙ has_left j own behind uses.1
used_here n k j at (DeclForm.proc p) ds uses = has_left j (used n (proc_sites n k p)) (used_from n (k + 1) ds) uses
used_here n k j at (DeclForm.id_type x) ds uses = absurd uses
used_here n k j at (DeclForm.opaque x) ds uses = absurd uses
used_here n k j at (DeclForm.datatype x cons) ds uses = absurd uses
used_here n k j at (DeclForm.crdt x c) ds uses = absurd uses
used_here n k j at (DeclForm.invariant x e) ds uses = absurd uses

used_there : (n : Names) (k : ℕ) (ds : List DeclTree) (i m j : ℕ) (at : Span) (form : DeclForm) → k + i ≡ m
    → slice_get ds i ≡ Some (DeclTree.node at form) → Uses n m (uses_behind n k ds i) form j → Has j (used_from n k ds)
used_there n k [] i m j at form number there uses = absurd cc
used_there n k (DeclTree.node s first ∷ ds) zero m j at form number there uses =
    let same : m ≡ k = omega (arith, number) in
    let is : form ≡ first = sym (ap form_in (one there)) in
    used_here n k j s first ds
    (subst (λ z. Uses n z (used_from n (k + 1) ds) first j) same (subst (λ z. Uses n m (used_from n (k + 1) ds) z j) is uses))
used_there n k (DeclTree.node s first ∷ ds) (suc i) m j at form number there uses =
    let next : k + 1 + i ≡ m = omega (arith, number) in
    still_used n k j s first ds (used_there n (k + 1) ds i m j at form next there uses)

-- what a declaration uses is used behind each declaration before it
pub used_behind : (n : Names) (k : ℕ) (ds : List DeclTree) (i m j l : ℕ) (at : Span) (form : DeclForm) → k + i ≡ m
    → slice_get ds i ≡ Some (DeclTree.node at form) → Uses n m (uses_behind n k ds i) form j → l < i → Has j (uses_behind n k ds l)
used_behind n k [] i m j l at form number there uses less = absurd cc
used_behind n k (d ∷ ds) zero m j l at form number there uses less = absurd (omega (arith, less))
used_behind n k (d ∷ ds) (suc i) m j zero at form number there uses less =
    let next : k + 1 + i ≡ m = omega (arith, number) in used_there n (k + 1) ds i m j at form next there uses
used_behind n k (d ∷ ds) (suc i) m j (suc l) at form number there uses less =
    let next : k + 1 + i ≡ m = omega (arith, number) in
    let before : l < i = omega (arith, less) in
    used_behind n (k + 1) ds i m j l at form next there uses before
