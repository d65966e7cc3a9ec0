-- Walks over replicated types add their objects one after the other.
use Rattle.std.proofs.Common.{◌≡◌, ℕ, zero, suc, ◌+◌, ◌<◌, ◌≤◌, Bool, true, false, List, [], ◌∷◌, ◌++◌, length, map, Some, None, refl, sym, ap, ap₂, subst, ◌∙◌, arith, ◌⊎◌, inl, inr, true≢false}
use Rattle.std.specs.List.{slice_get}
use Rattle.std.specs.Option.{is_some, unwrap_or}
use Rattle.std.proofs.lemmas.List.{append-nil, append_assoc, length-append, map-append}
use Rattle.std.proofs.lemmas.List.Elements.{filter_map-append}
use Rattle.rp_span.specs.declared.Span.{Span}
use Rattle.rp_grammar.specs.Trees.{CrdtForm, CrdtTree, DeclTree, FieldTree, FieldTrees, Ident}
use Rattle.text_names.specs.Parts.{crdt_in}
use Rattle.text_tables.specs.declared.object.Object.{Object}
use Rattle.text_tables.specs.declared.object.ObjectTable.{ObjectTable}
use Rattle.text_tables.specs.means.Counted.{crdts_in, many_in_fields, many_inside, many_of, many_on, object, objects_in_fields, objects_inside, objects_of, objects_on, own_many}
use Rattle.text_tables.specs.means.Kept.{AreFound, AreObjects, AreOnce}
use Rattle.text_tables.specs.means.Walked.{Adds, AddsFields, AddsInside, AddsOn, AddsRoots}

pub adds_none : (t : ObjectTable) → Adds t [] 0 0 t
adds_none t = record { objects_are = sym (append-nil t.objects); ops_are = omega arith; queries_are = omega arith; roots_are = refl }

pub adds_both : (old mid new : ObjectTable) (more next : List Object) (a b c d : ℕ) → Adds old more a b mid → Adds mid next c d new
    → Adds old (more ++ next) (a + c) (b + d) new
adds_both old mid new more next a b c d one other = record {
  objects_are = other.objects_are ∙ ap (λ os. os ++ next) one.objects_are ∙ append_assoc old.objects more next;
  ops_are = omega (arith, one.ops_are, other.ops_are);
  queries_are = omega (arith, one.queries_are, other.queries_are);
  roots_are = other.roots_are ∙ one.roots_are;
}

-- numbers that are the same
pub adds_with : (old new : ObjectTable) (more next : List Object) (a b c d : ℕ) → Adds old more a b new → more ≡ next → a ≡ c → b ≡ d
    → Adds old next c d new
adds_with old new more next a b c d adds is e h = record {
  objects_are = adds.objects_are ∙ ap (λ os. old.objects ++ os) is;
  ops_are = adds.ops_are ∙ ap (λ k. old.ops + k) e;
  queries_are = adds.queries_are ∙ ap (λ k. old.queries + k) h;
  roots_are = adds.roots_are;
}

-- where a walk has come to, what comes is told by the numbers so far
pub adds_then : (old mid new : ObjectTable) (more : List Object) (a b c d : ℕ) (later : ℕ → ℕ → List Object) → Adds old more a b mid
    → Adds mid (later mid.ops mid.queries) c d new → Adds old (more ++ later (old.ops + a) (old.queries + b)) (a + c) (b + d) new
adds_then old mid new more a b c d later one other =
    adds_both old mid new more (later (old.ops + a) (old.queries + b)) a b c d one
    (adds_with mid new (later mid.ops mid.queries) (later (old.ops + a) (old.queries + b)) c d c d other
    (ap₂ later one.ops_are one.queries_are) refl refl)

-- # Roots

pub roots_none : (t : ObjectTable) → AddsRoots t [] t
roots_none t = record { objects_are = sym (append-nil t.objects); ops_are = omega arith; queries_are = omega arith; roots_are = omega arith }

objects_both : (ops queries : ℕ) (cs ds : List CrdtTree)
    → objects_of ops queries (cs ++ ds) ≡ objects_of ops queries cs ++ objects_of (ops + many_of true cs) (queries + many_of false cs) ds
objects_both ops queries [] ds = ap₂ (λ a b. objects_of a b ds) (omega arith) (omega arith)
objects_both ops queries (c ∷ cs) ds =
    ap (λ os. objects_on ops queries c ++ os) (objects_both (ops + many_on true c) (queries + many_on false c) cs ds
    ∙ ap₂ (λ a b. objects_of (ops + many_on true c) (queries + many_on false c) cs ++ objects_of a b ds) (omega arith) (omega arith))
    ∙ sym (append_assoc (objects_on ops queries c) (objects_of (ops + many_on true c) (queries + many_on false c) cs)
    (objects_of (ops + many_of true (c ∷ cs)) (queries + many_of false (c ∷ cs)) ds))

many_both : (op : Bool) (cs ds : List CrdtTree) → many_of op (cs ++ ds) ≡ many_of op cs + many_of op ds
many_both op [] ds = omega arith
many_both op (c ∷ cs) ds = omega (arith, many_both op cs ds)

pub roots_both : (old mid new : ObjectTable) (cs ds : List CrdtTree) → AddsRoots old cs mid → AddsRoots mid ds new → AddsRoots old (cs ++ ds) new
roots_both old mid new cs ds one other = record {
  objects_are = other.objects_are
      ∙ ap₂ (λ os more. os ++ more) one.objects_are (ap₂ (λ a b. objects_of a b ds) one.ops_are one.queries_are)
      ∙ append_assoc old.objects (objects_of old.ops old.queries cs) (objects_of (old.ops + many_of true cs) (old.queries + many_of false cs) ds)
      ∙ ap (λ os. old.objects ++ os) (sym (objects_both old.ops old.queries cs ds));
  ops_are = omega (arith, one.ops_are, other.ops_are, many_both true cs ds);
  queries_are = omega (arith, one.queries_are, other.queries_are, many_both false cs ds);
  roots_are = omega (arith, one.roots_are, other.roots_are, length-append cs ds);
}

pub from_nothing : (t new : ObjectTable) (cs : List CrdtTree) → t.objects ≡ [] → t.ops ≡ 0 → t.queries ≡ 0 → t.roots ≡ 0 → AddsRoots t cs new
    → AreObjects cs new.objects new.ops new.roots
from_nothing t new cs none ops queries roots adds = record {
  are = adds.objects_are ∙ ap (λ os. os ++ objects_of t.ops t.queries cs) none ∙ ap₂ (λ a b. objects_of a b cs) ops queries;
  ops_are = omega (arith, adds.ops_are, ops);
  roots_are = omega (arith, adds.roots_are, roots);
}

-- # Where objects begin

pub no_some : {X : Type 0} {P : Type 0} (x : X) → None ≡ Some x → P
no_some x h = absurd (true≢false (sym (ap is_some h)))

pub get_last : {X : Type 0} (xs : List X) (x : X) (k : ℕ) (y : X) → slice_get (xs ++ x ∷ []) k ≡ Some y
    → (slice_get xs k ≡ Some y) ⊎ ((k ≡ length xs) × (x ≡ y))
get_last [] x zero y h = inr (refl, ap (λ o. unwrap_or o x) h)
get_last [] x (suc k) y h = no_some y h
get_last (z ∷ xs) x zero y h = inl h
get_last (z ∷ xs) x (suc k) y h = elim (get_last xs x k y h) [
  | inl at ↦ inl at
  | inr last ↦ inr (ap suc last.0, last.1)
]

pub once_none : AreOnce [] 0
once_none = record { below = λ i x h. no_some x h; once = λ i j x h g. no_some x h }

pub once_more : (starts : List ℕ) (end from : ℕ) → AreOnce starts end → end ≤ from → AreOnce (starts ++ from ∷ []) (from + 1)
once_more starts end from once behind = record { below = below; once = twice }
  where
    below : (i x : ℕ) → slice_get (starts ++ from ∷ []) i ≡ Some x → x < from + 1
    below i x h = elim (get_last starts from i x h) [
      | inl at ↦ omega (arith, once.below i x at, behind)
      | inr last ↦ omega (arith, last.1)
    ]

    twice : (i j x : ℕ) → slice_get (starts ++ from ∷ []) i ≡ Some x → slice_get (starts ++ from ∷ []) j ≡ Some x → i ≡ j
    twice i j x h g = elim (get_last starts from i x h) [
      | inl at ↦ elim (get_last starts from j x g) [
        | inl also ↦ once.once i j x at also
        | inr last ↦ omega (arith, once.below i x at, behind, last.1)
      ]
      | inr last ↦ elim (get_last starts from j x g) [
        | inl also ↦ omega (arith, once.below j x also, behind, last.1)
        | inr other ↦ last.0 ∙ sym other.0
      ]
    ]

pub found_none : AreFound [] 0 []
found_none = record { are = refl; once = once_none }

pub found_more : (starts : List ℕ) (end : ℕ) (objects : List Object) (o : Object) → AreFound starts end objects → end ≤ o.from
    → AreFound (starts ++ o.from ∷ []) (o.from + 1) (objects ++ o ∷ [])
found_more starts end objects o found behind = record {
  are = ap (λ xs. xs ++ o.from ∷ []) found.are ∙ sym (map-append (λ (o : Object). o.from) objects (o ∷ []));
  once = once_more starts end o.from found.once behind;
}

start_there : (objects : List Object) (i : ℕ) (o : Object) → slice_get objects i ≡ Some o → slice_get (map (λ (o : Object). o.from) objects) i ≡ Some o.from
start_there [] i o h = no_some o h
start_there (z ∷ objects) zero o h = ap (λ x. Some x.from) (ap (λ p. unwrap_or p z) h)
start_there (z ∷ objects) (suc i) o h = start_there objects i o h

-- it is the one that begins there
pub found_is : (starts : List ℕ) (end : ℕ) (objects : List Object) (i j x : ℕ) (o p : Object) → AreFound starts end objects
    → slice_get objects i ≡ Some o → o.from ≡ x → slice_get starts j ≡ Some x → slice_get objects j ≡ Some p → p ≡ o
found_is starts end objects i j x o p found at from there also =
    let first : slice_get starts i ≡ Some x =
    ap (λ xs. slice_get xs i) found.are ∙ start_there objects i o at ∙ ap Some from in
    let same : i ≡ j = found.once.once i j x first there in
    ap (λ q. unwrap_or q o) (sym also ∙ ap (slice_get objects) (sym same) ∙ at)

-- two that begin there are one
pub found_same : (starts : List ℕ) (end : ℕ) (objects : List Object) (i j x : ℕ) (o p : Object) → AreFound starts end objects
    → slice_get objects i ≡ Some o → o.from ≡ x → slice_get objects j ≡ Some p → p.from ≡ x → p ≡ o
found_same starts end objects i j x o p found at from there also =
    found_is starts end objects i j x o p found at from (ap (λ xs. slice_get xs j) found.are ∙ start_there objects j p there ∙ ap Some also) there

-- # Steps of walks

pub fields_step : (now mid new : ObjectTable) (x : Ident) (c : CrdtTree) (rest : FieldTrees) → AddsOn now c mid → AddsFields mid rest new
    → AddsFields now (FieldTrees.more_fields (FieldTree.field x c) rest) new
fields_step now mid new x c rest one other =
    adds_then now mid new (objects_on now.ops now.queries c) (many_on true c) (many_on false c) (many_in_fields true rest) (many_in_fields false rest)
    (λ ops queries. objects_in_fields ops queries rest) one other

pub on_step : (now mid new : ObjectTable) (at : Span) (form : CrdtForm) → Adds now (object at.from now.ops now.queries ∷ []) (own_many true form) (own_many false form) mid
    → AddsInside mid form new → AddsOn now (CrdtTree.node at form) new
on_step now mid new at form one other =
    adds_then now mid new (object at.from now.ops now.queries ∷ []) (own_many true form) (own_many false form) (many_inside true form) (many_inside false form)
    (λ ops queries. objects_inside ops queries form) one other

pub roots_step : (now mid new : ObjectTable) (d : DeclTree) (ds : List DeclTree) → AddsRoots now (crdts_in (d ∷ [])) mid → AddsRoots mid (crdts_in ds) new
    → AddsRoots now (crdts_in (d ∷ ds)) new
roots_step now mid new d ds one other =
    subst (λ cs. AddsRoots now cs new) (sym (filter_map-append crdt_in (d ∷ []) ds)) (roots_both now mid new (crdts_in (d ∷ [])) (crdts_in ds) one other)

-- a root is a type more
pub root_is : (old new made : ObjectTable) (c : CrdtTree) → AddsOn old c new → made.objects ≡ new.objects → made.ops ≡ new.ops → made.queries ≡ new.queries
    → made.roots ≡ new.roots + 1 → AddsRoots old (c ∷ []) made
root_is old new made c adds objects ops queries roots = record {
  objects_are = objects ∙ adds.objects_are ∙ ap (λ os. old.objects ++ os) (sym (append-nil (objects_on old.ops old.queries c)));
  ops_are = omega (arith, ops, adds.ops_are);
  queries_are = omega (arith, queries, adds.queries_are);
  roots_are = roots ∙ ap (λ k. k + 1) adds.roots_are;
}
