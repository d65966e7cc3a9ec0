-- What the names of a lawful text stand for: roots, queries, procedures and constructors have different names.
use Rattle.std.proofs.Common.{◌≡◌, ◌+◌, ℕ, zero, suc, Bool, true, false, List, [], ◌∷◌, ◌++◌, map, length, Some, refl, ap, subst, sym, ◌∙◌, cond}
use Rattle.std.specs.Prelude.{slice_get, option_map}
use Rattle.std.specs.List.{AllByRecursion, IsDistinct, list_any}
use Rattle.std.proofs.lemmas.Bool.{or_parts}
use Rattle.std.proofs.lemmas.Cmp.{nat_list_eq_equiv}
use Rattle.std.proofs.lemmas.List.{map-append, length-append, append_assoc}
use Rattle.std.proofs.lemmas.Option.{slice_get-map}
use Rattle.std.proofs.lemmas.List.Folds.{list_any-append}
use Rattle.std.proofs.lemmas.Map.Keys.{IsDistinct-cons, IsDistinct-head, IsDistinct-tail}
use Rattle.rp_span.specs.declared.Span.{Span}
use Rattle.rp_grammar.specs.Trees.{ConTree, QueryTree, ProcTree, DeclForm, DeclTree}
use Rattle.type_rules.specs.Names.{Name, Names, Entry, TypeEntry, TypeSort, Declared, same_name, text_of, con_name, con_entry, types_in, types_from, entries_in, entries_from, first_entry}
use Rattle.type_rules.specs.Queries.{names_of, declared_names, with_formulas, with_flag, is_formula_decl}
use Rattle.type_rules.specs.Matches.{Case, find_case}
use Rattle.type_rules.specs.TextSites.{Seen, nothing_seen, with_decl, declared_others, decl_sites}
use Rattle.type_rules.specs.Faults.{IsLawful}
use Rattle.lawful.proofs.Forms.{one}
use Rattle.lawful.proofs.Distinct.{fresh_distinct, fresh_parts, at_place, no_members}
use Rattle.lawful.proofs.Arms.{flipped, case_name}
use Rattle.lawful.proofs.Places.{Lawfully, all_both, all_lawful, names_fresh, name_parts, types_are}

-- # All names differ

pub distinct_append : (h r : List Name) → IsDistinct flipped h → IsDistinct flipped r → AllByRecursion (λ y. list_any (same_name y) h ≡ false) r
    → IsDistinct flipped (h ++ r)
distinct_append [] r here rest apart = rest
distinct_append (x ∷ xs) r here rest apart =
    let p = fresh_parts same_name x xs r apart in
    IsDistinct-cons flipped x (xs ++ r) (all_both (λ y. flipped x y ≡ false) xs r (IsDistinct-head flipped x xs here) p.0)
    (distinct_append xs r (IsDistinct-tail flipped x xs here) rest p.1)

pub first_parts : (h before : List Name) (r : List Name) → AllByRecursion (λ y. list_any (same_name y) (h ++ before) ≡ false) r
    → AllByRecursion (λ y. list_any (same_name y) h ≡ false) r × AllByRecursion (λ y. list_any (same_name y) before ≡ false) r
first_parts h before [] all = (tt, tt)
first_parts h before (y ∷ ys) all =
    let p = or_parts (list_any (same_name y) h) (list_any (same_name y) before) (sym (list_any-append (same_name y) h before) ∙ all.0) in
    let r = first_parts h before ys all.1 in
    ((p.0, r.0), (p.1, r.1))

abbrev pub entry_name : Entry → Name
entry_name e = e.name

names_of_cons : (k type : ℕ) (cons : List ConTree) → map entry_name (map (con_entry k type) cons) ≡ map text_of (map con_name cons)
names_of_cons k type [] = refl
names_of_cons k type (c ∷ cons) = ap (λ xs. text_of (con_name c) ∷ xs) (names_of_cons k type cons)

names_in_decl : (k type : ℕ) (d : DeclTree) (form : DeclForm) → (at : Span) → d ≡ DeclTree.node at form → map entry_name (entries_in k type d) ≡ map text_of (declared_others form)
names_in_decl k type d (DeclForm.id_type x) at e = subst (λ z. map entry_name (entries_in k type z) ≡ []) (sym e) refl
names_in_decl k type d (DeclForm.opaque x) at e = subst (λ z. map entry_name (entries_in k type z) ≡ []) (sym e) refl
names_in_decl k type d (DeclForm.datatype x cons) at e =
    subst (λ z. map entry_name (entries_in k type z) ≡ map text_of (map con_name cons)) (sym e) (names_of_cons k type cons)
names_in_decl k type d (DeclForm.crdt x c) at e = subst (λ z. map entry_name (entries_in k type z) ≡ text_of x ∷ []) (sym e) refl
names_in_decl k type d (DeclForm.query (QueryTree.query x params result body)) at e =
    subst (λ z. map entry_name (entries_in k type z) ≡ text_of x ∷ []) (sym e) refl
names_in_decl k type d (DeclForm.invariant x body) at e = subst (λ z. map entry_name (entries_in k type z) ≡ []) (sym e) refl
names_in_decl k type d (DeclForm.proc (ProcTree.proc x params result body)) at e =
    subst (λ z. map entry_name (entries_in k type z) ≡ text_of x ∷ []) (sym e) refl

entries_differ : (n : Names) (seen : Seen) (k type : ℕ) (ds : List DeclTree) → AllByRecursion (Lawfully n) (decl_sites n seen k ds)
    → AllByRecursion (λ y. list_any (same_name y) seen.others ≡ false) (map entry_name (entries_from k type ds))
    × IsDistinct flipped (map entry_name (entries_from k type ds))
entries_differ n seen k type [] all = (tt, no_members flipped)
entries_differ n seen k type (DeclTree.node at form ∷ ds) all =
    let parts = name_parts n seen k at form ds all in
    let h = map text_of (declared_others form) in
    let here = fresh_distinct same_name seen.others h (names_fresh n seen.others (declared_others form) parts.0) in
    let next = type + length (types_in k (DeclTree.node at form)) in
    let rest = entries_differ n (with_decl seen form) (k + 1) next ds parts.1 in
    let r = map entry_name (entries_from (k + 1) next ds) in
    let apart = first_parts h seen.others r rest.0 in
    let whole : h ++ r ≡ map entry_name (entries_from k type (DeclTree.node at form ∷ ds)) =
    ap (λ xs. xs ++ r) (sym (names_in_decl k type (DeclTree.node at form) form at refl)) ∙ sym (map-append entry_name (entries_in k type (DeclTree.node at form)) (entries_from (k + 1) next ds)) in (
      subst (AllByRecursion (λ y. list_any (same_name y) seen.others ≡ false)) whole (all_both (λ y. list_any (same_name y) seen.others ≡ false) h r here.0 apart.1),
      subst (IsDistinct flipped) whole (distinct_append h r here.1 rest.1 apart.0),
    )

-- queries that are told apart leave the entries as they are
entries_stay : (n : Names) (ds : List DeclTree) → (with_formulas n ds).entries ≡ n.entries
entries_stay n [] = refl
entries_stay n (d ∷ ds) = entries_stay (with_flag n (is_formula_decl n d)) ds

pub entries_are : (tree : List DeclTree) → (names_of tree).entries ≡ entries_from 0 0 tree
entries_are tree = entries_stay (declared_names tree) tree

-- roots, queries, procedures and constructors have different names
pub names_differ : (tree : List DeclTree) → IsLawful tree → IsDistinct flipped (map entry_name (names_of tree).entries)
names_differ tree lawful =
    subst (λ es. IsDistinct flipped (map entry_name es)) (sym (entries_are tree))
    (entries_differ (names_of tree) nothing_seen 0 0 tree (all_lawful tree lawful)).1

-- # The entry of a name

pub record Stands (es : List Entry) (x : Name) (e : Entry) : Type 0 where
  pub place : ℕ
  pub there : slice_get es place ≡ Some e
  pub named : same_name e.name x ≡ true

pub entry_there : (es : List Entry) (x : Name) (e : Entry) → first_entry es x ≡ Some e → Stands es x e
entry_there [] x e is = absurd cc
entry_there (first ∷ es) x e is = by_name first es x e (same_name first.name x) refl is (entry_there es x e) where
  by_name : (first : Entry) (es : List Entry) (x : Name) (e : Entry) (same : Bool) → same_name first.name x ≡ same
      → cond same (Some first) (first_entry es x) ≡ Some e → (first_entry es x ≡ Some e → Stands es x e) → Stands (first ∷ es) x e
  by_name first es x e true named is rest =
      record { place = 0; there = is; named = subst (λ z. same_name z.name x ≡ true) (one is) named }
  by_name first es x e false named is rest = let r = rest is in record { place = suc r.place; there = r.there; named = r.named }

-- # Constructors are cases of their types

-- the types of the constructors of the entries
abbrev pub IsConOf : List TypeEntry → Declared → Type 0
IsConOf types (Declared.con type c) = (entry : TypeEntry) × (cons : List ConTree) × (slice_get types type ≡ Some entry) × (entry.sort ≡ TypeSort.datatype cons)
    × ((i : ℕ) × (slice_get cons i ≡ Some c))
IsConOf types _ = Unit {0}

all_by_place : {X : Type 0} (P : X → Type 0) (xs : List X) → ((i : ℕ) (x : X) → slice_get xs i ≡ Some x → P x) → AllByRecursion P xs
all_by_place P [] f = tt
all_by_place P (x ∷ xs) f = (f 0 x refl, all_by_place P xs (λ i y e. f (suc i) y e))

pub all_map : {X Y : Type 0} (P : Y → Type 0) (f : X → Y) (xs : List X) → AllByRecursion (λ x. P (f x)) xs → AllByRecursion P (map f xs)
all_map P f [] all = tt
all_map P f (x ∷ xs) all = (all.0, all_map P f xs all.1)

at_end : {X : Type 0} (before : List X) (x : X) (rest : List X) (i : ℕ) → length before ≡ i → slice_get (before ++ x ∷ rest) i ≡ Some x
at_end [] x rest zero e = refl
at_end [] x rest (suc i) e = absurd cc
at_end (b ∷ before) x rest zero e = absurd cc
at_end (b ∷ before) x rest (suc i) e = at_end before x rest i cc

abbrev pub IsConIn : List TypeEntry → Entry → Type 0
IsConIn types e = IsConOf types e.what

cons_in_decl : (before rest : List TypeEntry) (k type : ℕ) (at : Span) (form : DeclForm) → length before ≡ type
    → AllByRecursion (IsConIn (before ++ (types_in k (DeclTree.node at form) ++ rest))) (entries_in k type (DeclTree.node at form))
cons_in_decl before rest k type at (DeclForm.id_type x) e = tt
cons_in_decl before rest k type at (DeclForm.opaque x) e = tt
cons_in_decl before rest k type at (DeclForm.datatype x cons) e =
    let entry : TypeEntry = record { name = text_of x; decl = k; sort = TypeSort.datatype cons } in
    all_map (IsConIn (before ++ entry ∷ rest)) (con_entry k type) cons
    (all_by_place (λ c. IsConIn (before ++ entry ∷ rest) (con_entry k type c)) cons
    (λ i c there. (entry, cons, at_end before entry rest type e, refl, (i, there))))
cons_in_decl before rest k type at (DeclForm.crdt x c) e = (tt, tt)
cons_in_decl before rest k type at (DeclForm.query (QueryTree.query x params result body)) e = (tt, tt)
cons_in_decl before rest k type at (DeclForm.invariant x body) e = tt
cons_in_decl before rest k type at (DeclForm.proc (ProcTree.proc x params result body)) e = (tt, tt)

cons_in_types : (before : List TypeEntry) (k type : ℕ) (ds : List DeclTree) → length before ≡ type
    → AllByRecursion (IsConIn (before ++ types_from k ds)) (entries_from k type ds)
cons_in_types before k type [] e = tt
cons_in_types before k type (DeclTree.node at form ∷ ds) e =
    let d = DeclTree.node at form in
    let added = types_in k d in
    let size : length (before ++ added) ≡ type + length added = length-append before added ∙ ap (λ m. m + length added) e in
    all_both (IsConIn (before ++ types_from k (d ∷ ds))) (entries_in k type d) (entries_from (k + 1) (type + length added) ds)
    (cons_in_decl before (types_from (k + 1) ds) k type at form e)
    (subst (λ types. AllByRecursion (IsConIn types) (entries_from (k + 1) (type + length added) ds)) (append_assoc before added (types_from (k + 1) ds))
    (cons_in_types (before ++ added) (k + 1) (type + length added) ds size))

pub con_entries : (tree : List DeclTree) → AllByRecursion (IsConIn (names_of tree).types) (names_of tree).entries
con_entries tree =
    subst (λ types. AllByRecursion (IsConIn types) (names_of tree).entries) (sym (types_are tree))
    (subst (AllByRecursion (IsConIn (types_from 0 tree))) (sym (entries_are tree)) (cons_in_types [] 0 0 tree refl))

-- of cases with different names, the one at a place is found by its name
pub found_case : (cs : List Case) (i : ℕ) (c : Case) → IsDistinct flipped (map case_name cs) → slice_get cs i ≡ Some c → find_case cs c.name ≡ Some c
found_case [] i c differ is = absurd cc
found_case (x ∷ xs) zero c differ is =
    let own : same_name x.name c.name ≡ true = subst (λ z. same_name z.name c.name ≡ true) (sym (one is)) (nat_list_eq_equiv.refl c.name) in
    rw own is
found_case (x ∷ xs) (suc i) c differ is =
    let apart : same_name c.name x.name ≡ false =
    at_place (λ y. flipped x.name y ≡ false) (map case_name xs) i c.name (IsDistinct-head flipped x.name (map case_name xs) differ)
    (slice_get-map case_name xs i ∙ ap (option_map case_name) is) in
    let other : same_name x.name c.name ≡ false = nat_list_eq_equiv.symm x.name c.name ∙ apart in
    rw other (found_case xs i c (IsDistinct-tail flipped x.name (map case_name xs) differ) is)
