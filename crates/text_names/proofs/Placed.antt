-- Parts keep their places when more stands behind them.
use Rattle.std.proofs.Common.{◌≡◌, ℕ, zero, suc, ◌+◌, ◌<◌, Bool, true, false, List, [], ◌∷◌, ◌++◌, length, map, take, get_or, Option, Some, None, Result, Ok, Err, ◌⊎◌, inl, inr, refl, sym, ap, ap₂, ◌∙◌, subst, append_assoc, arith, true≢false}
use Rattle.std.specs.Prelude.{if◌then◌else◌, OnOk, OnErr}
use Rattle.std.specs.List.{slice_get}
use Rattle.std.specs.Option.{is_some, option_and_then, option_map, unwrap_or}
use Rattle.std.proofs.lemmas.List.{length-append, map-append, take_more}
use Rattle.std.proofs.lemmas.Option.{slice_get_within}
use Rattle.rp_span.specs.declared.Span.{Span}
use Rattle.rp_grammar.specs.Trees.{ident, fields, TypeTree, CrdtTree, CrdtForm, FieldTree, FieldTrees}
use Rattle.rp_ast.specs.declared.decl.Decl.{Decl}
use Rattle.rp_ast.specs.declared.crdt.FieldNode.{FieldNode}
use Rattle.rp_ast.specs.View.{crdt_view, decl_view, decls_view, field_view, fields_view}
use Rattle.rp_ast.proofs.TypeViews.{field_view-parts}
use Rattle.type_rules.specs.Names.{Name, same_name}
use Rattle.type_rules.specs.Paths.{field_of}
use Rattle.type_tables.specs.Tables.{Entries, Table, number_in, with_first}
use Rattle.type_tables.proofs.Places.{first_at, same}
use Rattle.text_names.specs.declared.parts.PartItem.{PartItem}
use Rattle.text_names.specs.declared.parts.Inside as code_inside
use Rattle.text_names.specs.declared.parts.Inside.TheVariants as inside
use Rattle.text_names.specs.Parts.{AreFields, ArePlaced, AreWithin, IsLonger, IsPlaced, crdt_in, field_place, held_place, no_part, part_at, roots_seen, trees_of}

no_some : {X : Type 0} {P : Type 0} (x : X) → None ≡ Some x → P
no_some x h = absurd (true≢false (sym (ap is_some h)))

get_front : {X : Type 0} (xs ys : List X) (k : ℕ) → k < length xs → slice_get (xs ++ ys) k ≡ slice_get xs k
get_front [] ys k h = absurd (omega arith)
get_front (x ∷ xs) ys zero h = refl
get_front (x ∷ xs) ys (suc k) h = get_front xs ys k (omega arith)

reads_on : {X : Type 0} (xs ys : List X) (o : Option ℕ) → ((k : ℕ) → o ≡ Some k → k < length xs)
    → option_and_then (slice_get (xs ++ ys)) o ≡ option_and_then (slice_get xs) o
reads_on xs ys None h = refl
reads_on xs ys (Some k) h = get_front xs ys k (h k refl)

still_within : {X : Type 0} (xs ys : List X) (k : ℕ) → k < length xs → k < length (xs ++ ys)
still_within xs ys k h = omega (arith, length-append xs ys)

grown : (trees more : List CrdtTree) (tree : CrdtTree) (i : code_inside.Inside) → IsPlaced trees tree i
    → IsPlaced (trees ++ more) tree i
grown trees more tree i p = record {
  fields = λ x. reads_on trees more (field_place i x) (p.fields_within x) ∙ p.fields x;
  fields_within = λ x k h. still_within trees more k (p.fields_within x k h);
  held = reads_on trees more (held_place i) p.held_within ∙ p.held;
  held_within = λ k h. still_within trees more k (p.held_within k h);
}

get_last : {X : Type 0} (xs : List X) (x : X) (k : ℕ) (y : X) → slice_get (xs ++ x ∷ []) k ≡ Some y
    → (slice_get xs k ≡ Some y) ⊎ (x ≡ y)
get_last [] x zero y h = inr (ap (λ o. unwrap_or o x) h)
get_last [] x (suc k) y h = no_some y h
get_last (z ∷ xs) x zero y h = inl h
get_last (z ∷ xs) x (suc k) y h = get_last xs x k y h

pub placed_push : (items : List PartItem) (item : PartItem) → ArePlaced items
    → IsPlaced (trees_of items) (crdt_view item.crdt.now) item.inside → ArePlaced (items ++ item ∷ [])
placed_push items item before p k there h =
    subst (λ trees. IsPlaced trees (crdt_view there.crdt.now) there.inside)
    (sym (map-append (λ (i : PartItem). crdt_view i.crdt.now) items (item ∷ [])))
    (by (get_last items item k there h))
  where
    by : (slice_get items k ≡ Some there) ⊎ (item ≡ there)
        → IsPlaced (trees_of items ++ crdt_view item.crdt.now ∷ []) (crdt_view there.crdt.now) there.inside
    by (inl g) = grown (trees_of items) (crdt_view item.crdt.now ∷ []) (crdt_view there.crdt.now) there.inside (before k there g)
    by (inr e) =
        subst (λ (i : PartItem). IsPlaced (trees_of items ++ crdt_view item.crdt.now ∷ []) (crdt_view i.crdt.now) i.inside) e
        (grown (trees_of items) (crdt_view item.crdt.now ∷ []) (crdt_view item.crdt.now) item.inside p)

pub last_there : {X Y : Type 0} (f : X → Y) (xs : List X) (x : X) (n : ℕ) → n ≡ length xs
    → slice_get (map f (xs ++ x ∷ [])) n ≡ Some (f x)
last_there f [] x zero h = refl
last_there f [] x (suc n) h = absurd (omega arith)
last_there f (y ∷ xs) x zero h = absurd (omega arith)
last_there f (y ∷ xs) x (suc n) h = last_there f xs x n (omega arith)

-- # Results

pub either : {X E A B P : Type 0} (r : Result X E) → OnOk r A → OnErr r B → (A → P) → (B → P) → P
either (Ok x) a b f g = f a
either (Err e) a b f g = g b

pub on_ok : {X E A B : Type 0} (r : Result X E) → (A → B) → OnOk r A → OnOk r B
on_ok (Ok x) f a = f a
on_ok (Err e) f a = a

-- # Longer lists

pub longer : (a b c : List CrdtTree) (more : List CrdtTree) → IsLonger a b → c ≡ b ++ more → IsLonger a c
longer a b c more h e = (h.0 ++ more, e ∙ ap (λ l. l ++ more) h.1 ∙ append_assoc a h.0 more)

pub longer_both : (a b c : List CrdtTree) → IsLonger a b → IsLonger b c → IsLonger a c
longer_both a b c h g = longer a b c g.0 h g.1

-- # Fields

or_else : {X : Type 0} → Option X → Option X → Option X
or_else None o = o
or_else (Some x) o = Some x

field_last : (ts : List FieldTree) (y : Name) (at : Span) (c : CrdtTree) (x : Name)
    → field_of (fields (ts ++ FieldTree.field (ident y at) c ∷ [])) x
    ≡ or_else (field_of (fields ts) x) (if same_name y x then Some c else None)
unfolding or_else
field_last [] y at c x = refl
field_last (FieldTree.field (ident z s) d ∷ ts) y at c x = by (same_name z x) (field_last ts y at c x)
  where
    by : (b : Bool)
        → field_of (fields (ts ++ FieldTree.field (ident y at) c ∷ [])) x
        ≡ or_else (field_of (fields ts) x) (if same_name y x then Some c else None)
        → (if b then Some d else field_of (fields (ts ++ FieldTree.field (ident y at) c ∷ [])) x)
        ≡ or_else (if b then Some d else field_of (fields ts) x) (if same_name y x then Some c else None)
    by true later = refl
    by false later = later

pub no_fields_yet : (trees : List CrdtTree) (t : Table) → ((x : Name) → t x ≡ None) → AreFields trees t FieldTrees.no_fields
no_fields_yet trees t h = record {
  found = λ x. ap (option_and_then (slice_get trees)) (h x);
  within = λ x k e. no_some k (sym (h x) ∙ e);
}

-- one field more, where its replicated type stands at a place
pub field_more : (trees more : List CrdtTree) (t : Table) (ts : List FieldTree) (y : Name) (at : Span) (c : CrdtTree) (p : ℕ)
    → AreFields trees t (fields ts) → slice_get (trees ++ more) p ≡ Some c
    → AreFields (trees ++ more) (with_first t y p) (fields (ts ++ FieldTree.field (ident y at) c ∷ []))
unfolding or_else
field_more trees more t ts y at c p are there = record {
  found = λ x. ap (option_and_then (slice_get (trees ++ more))) (first_at t y p x) ∙ told x (t y) refl (same_name y x) refl
      ∙ sym (field_last ts y at c x);
  within = λ x k h. near x k (t y) (same_name y x) (sym (first_at t y p x) ∙ h);
}
  where
    near : (x : Name) (k : ℕ) (o : Option ℕ) (b : Bool)
        → (if is_some o then t x else (if b then Some p else t x)) ≡ Some k → k < length (trees ++ more)
    near x k (Some q) b h = still_within trees more k (are.within x k h)
    near x k None true h =
        let same_place : p ≡ k = ap (λ o. unwrap_or o p) h in
        let inside = slice_get_within (trees ++ more) p c there in omega arith
    near x k None false h = still_within trees more k (are.within x k h)

    read : (x : Name) → option_and_then (slice_get (trees ++ more)) (t x) ≡ field_of (fields ts) x
    read x = reads_on trees more (t x) (are.within x) ∙ are.found x

    kept : (o : Option CrdtTree) → (o ≡ None → ⊥) → o ≡ or_else o (Some c)
    kept None h = absurd (h refl)
    kept (Some d) h = refl

    alone : (o : Option CrdtTree) → o ≡ or_else o None
    alone None = refl
    alone (Some d) = refl

    has : (o : Option CrdtTree) (q : ℕ) → option_and_then (slice_get trees) (Some q) ≡ o → q < length trees → o ≡ None → ⊥
    has o q e h n = missing trees q h (e ∙ n)
      where
        missing : (xs : List CrdtTree) (q : ℕ) → q < length xs → slice_get xs q ≡ None → ⊥
        missing [] q h n = omega arith
        missing (x ∷ xs) zero h n = true≢false (ap is_some n)
        missing (x ∷ xs) (suc q) h n = missing xs q (omega arith) n

    told : (x : Name) (o : Option ℕ) → t y ≡ o → (b : Bool) → same_name y x ≡ b
        → option_and_then (slice_get (trees ++ more)) (if is_some o then t x else (if b then Some p else t x))
        ≡ or_else (field_of (fields ts) x) (if b then Some c else None)
    told x (Some q) e true s =
        let at_x : t x ≡ Some q = ap t (sym (same y x s)) ∙ e in
        read x ∙ kept (field_of (fields ts) x)
        (has (field_of (fields ts) x) q (ap (option_and_then (slice_get trees)) (sym at_x) ∙ are.found x) (are.within x q at_x))
    told x (Some q) e false s = read x ∙ alone (field_of (fields ts) x)
    told x None e true s =
        let at_x : t x ≡ None = ap t (sym (same y x s)) ∙ e in
        let none : None ≡ field_of (fields ts) x = ap (option_and_then (slice_get trees)) (sym at_x) ∙ are.found x in
        there ∙ ap (λ o. or_else o (Some c)) none
    told x None e false s = read x ∙ alone (field_of (fields ts) x)

pub fields_placed : (trees : List CrdtTree) (at : Span) (i : code_inside.Inside) (parts : FieldTrees)
    → AreFields trees (field_place i) parts → held_place i ≡ None → IsPlaced trees (CrdtTree.node at (CrdtForm.struct parts)) i
fields_placed trees at i parts are h = record {
  fields = are.found;
  fields_within = are.within;
  held = ap (option_and_then (slice_get trees)) h;
  held_within = λ k e. no_some k (sym h ∙ e);
}

pub held_uw : (trees : List CrdtTree) (at : Span) (t : TypeTree) (c : CrdtTree) (k : ℕ) → slice_get trees k ≡ Some c
    → IsPlaced trees (CrdtTree.node at (CrdtForm.map_uw t c)) (inside.Held k)
held_uw trees at t c k h = record {
  fields = λ x. refl;
  fields_within = λ x j e. no_some j e;
  held = h;
  held_within = λ j e. subst (λ (o : Option ℕ). unwrap_or o j < length trees) e (slice_get_within trees k c h);
}

pub held_dw : (trees : List CrdtTree) (at : Span) (t : TypeTree) (c : CrdtTree) (k : ℕ) → slice_get trees k ≡ Some c
    → IsPlaced trees (CrdtTree.node at (CrdtForm.map_dw t c)) (inside.Held k)
held_dw trees at t c k h = record {
  fields = λ x. refl;
  fields_within = λ x j e. no_some j e;
  held = h;
  held_within = λ j e. subst (λ (o : Option ℕ). unwrap_or o j < length trees) e (slice_get_within trees k c h);
}

-- the next field of a struct's list
pub field_next : (trees after : List CrdtTree) (fs : List FieldNode) (n : ℕ) (f : FieldNode) (places new : Entries) (y : Name) (p : ℕ)
    → AreFields trees (number_in places) (fields_view (take n fs)) → IsLonger trees after → n < length fs → f ≡ get_or fs n f
    → slice_get after p ≡ Some (crdt_view f.crdt) → y ≡ f.name.text → number_in new ≡ with_first (number_in places) y p
    → AreFields after (number_in new) (fields_view (take (n + 1) fs))
field_next trees after fs n f places new y p are more h e there name given =
    let t = number_in places in
    let ts = map field_view (take n fs) in
    let last : map field_view (take (n + 1) fs) ≡ ts ++ FieldTree.field (ident f.name.text f.name.span) (crdt_view f.crdt) ∷ [] =
    ap (map field_view) (take_more fs n f h) ∙ map-append field_view (take n fs) (get_or fs n f ∷ [])
    ∙ ap (λ tree. ts ++ tree ∷ []) (ap field_view (sym e) ∙ field_view-parts f) in
    let stands : slice_get (trees ++ more.0) p ≡ Some (crdt_view f.crdt) = ap (λ l. slice_get l p) (sym more.1) ∙ there in
    subst (λ l. AreFields l (number_in new) (fields_view (take (n + 1) fs))) (sym more.1)
    (subst (λ (table : Table). AreFields (trees ++ more.0) table (fields_view (take (n + 1) fs)))
    (sym (given ∙ ap (λ y. with_first t y p) name))
    (subst (λ l. AreFields (trees ++ more.0) (with_first t f.name.text p) (fields l)) (sym last)
    (field_more trees more.0 t ts f.name.text f.name.span (crdt_view f.crdt) p are stands)))

-- # Roots

part_kept : (trees more : List CrdtTree) (o : Option ℕ) → ((k : ℕ) → o ≡ Some k → k < length trees)
    → option_map (part_at (trees ++ more)) o ≡ option_map (part_at trees) o
part_kept trees more None h = refl
part_kept trees more (Some k) h = ap (λ o. Some (unwrap_or o no_part)) (get_front trees more k (h k refl))

roots_kept : (trees more : List CrdtTree) (places : List (Option ℕ)) → AreWithin trees places
    → roots_seen (trees ++ more) places ≡ roots_seen trees places
roots_kept trees more [] h = refl
roots_kept trees more (o ∷ places) h =
    ap₂ (λ c cs. c ∷ cs) (part_kept trees more o (λ k e. h 0 k (ap (λ o. Some o) e))) (roots_kept trees more places (λ i k e. h (suc i) k e))

read_is : (trees : List CrdtTree) (o : Option ℕ) (c : Option CrdtTree) → option_and_then (slice_get trees) o ≡ c
    → ((k : ℕ) → o ≡ Some k → k < length trees) → option_map (part_at trees) o ≡ c
read_is trees None c e h = e
read_is trees (Some k) c e h = there (slice_get trees k) refl ∙ e
  where
    there : (o : Option CrdtTree) → slice_get trees k ≡ o → Some (unwrap_or (slice_get trees k) no_part) ≡ slice_get trees k
    there None g = absurd (past trees k (h k refl) g)
      where
        past : (xs : List CrdtTree) (k : ℕ) → k < length xs → slice_get xs k ≡ None → ⊥
        past [] k h n = omega arith
        past (x ∷ xs) zero h n = true≢false (ap is_some n)
        past (x ∷ xs) (suc k) h n = past xs k (omega arith) n
    there (Some d) g = ap (λ o. Some (unwrap_or o no_part)) g ∙ sym g

-- one declaration more
pub roots_next : (trees after : List CrdtTree) (places : List (Option ℕ)) (decls : List Decl) (n : ℕ) (d : Decl) (place : Option ℕ)
    → AreWithin trees places → roots_seen trees places ≡ map crdt_in (decls_view (take n decls)) → IsLonger trees after
    → n < length decls → d ≡ get_or decls n d
    → option_and_then (slice_get after) place ≡ crdt_in (decl_view d) → ((k : ℕ) → place ≡ Some k → k < length after)
    → AreWithin after (places ++ place ∷ []) × (roots_seen after (places ++ place ∷ [])
    ≡ map crdt_in (decls_view (take (n + 1) decls)))
roots_next trees after places decls n d place within seen more h e read below = (
  λ i k g. by i k (get_last places place i (Some k) g),
  map-append (option_map (part_at after)) places (place ∷ [])
      ∙ ap₂ (λ rs r. rs ++ r ∷ [])
      (ap (λ l. roots_seen l places) more.1 ∙ roots_kept trees more.0 places within ∙ seen)
      (read_is after place (crdt_in (decl_view d)) read below)
      ∙ sym (ap (λ l. map crdt_in (decls_view l)) (take_more decls n d h)
      ∙ ap (map crdt_in) (map-append decl_view (take n decls) (get_or decls n d ∷ []))
      ∙ map-append crdt_in (decls_view (take n decls)) (decl_view (get_or decls n d) ∷ [])
      ∙ ap (λ d. map crdt_in (decls_view (take n decls)) ++ crdt_in (decl_view d) ∷ []) (sym e)),
)
  where
    by : (i k : ℕ) → (slice_get places i ≡ Some (Some k)) ⊎ (place ≡ Some k) → k < length after
    by i k (inl g) = subst (λ l. k < length l) (sym more.1) (still_within trees more.0 k (within i k g))
    by i k (inr g) = below k g
