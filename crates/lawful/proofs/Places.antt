-- At each place of a lawful tree no rule is broken, and what that gives of its names.
use Rattle.std.proofs.Common.{◌≡◌, ◌+◌, ℕ, zero, suc, Bool, true, false, ◌&&◌, ◌==◌, List, [], ◌∷◌, ◌++◌, map, codes, Option, Some, None, refl, ap, subst, sym, cond, inl, inr}
use Rattle.std.specs.Prelude.{slice_get}
use Rattle.std.specs.List.{AllByRecursion, IsDistinct}
use Rattle.std.proofs.lemmas.Map.Keys.{IsDistinct-cons}
use Rattle.rp_span.specs.declared.Span.{Span}
use Rattle.rp_grammar.specs.Trees.{Ident, ConTree, DeclForm, DeclTree}
use Rattle.type_rules.specs.declared.kind.Kind.{Kind}
use Rattle.type_rules.specs.declared.kind.Base.{Base}
use Rattle.type_rules.specs.declared.kind.Base.TheVariants as base
use Rattle.type_rules.specs.Names.{Name, Names, TypeEntry, TypeSort, same_name, text_of, con_name, types_from}
use Rattle.type_rules.specs.Kinds.{is_open}
use Rattle.type_rules.specs.Queries.{names_of, declared_names, with_formulas, with_flag, is_formula_decl}
use Rattle.type_rules.specs.Sites.{Site}
use Rattle.type_rules.specs.Matches.{Case, case, con_case, sort_cases, declared_cases, cases_of, maybe_cases}
use Rattle.type_rules.specs.DeclSites.{named_all}
use Rattle.type_rules.specs.TextSites.{Seen, nothing_seen, with_decl, name_sites, declared_types, declared_others, inner_sites, used_from, decl_sites, sites_of}
use Rattle.type_rules.specs.Rules.{Numbered, rules, rule, rule01, rule03, rule04, rule08, rule09, rule10, rule12, rule13, rule14, rule15, rule16, rule18, rule21, rule22, rule23}
use Rattle.type_rules.specs.Faults.{IsOneOf, IsLawful}
use Rattle.lawful.specs.Kept.{Kept, AllKept, has_number, is_quiet}
use Rattle.lawful.proofs.Basics.{when_not}
use Rattle.lawful.proofs.Forms.{one}
use Rattle.lawful.proofs.Distinct.{Fresh, fresh_distinct, at_place, no_members}
use Rattle.lawful.proofs.Arms.{CasesDiffer, flipped, case_name}

-- # Lists of places

pub all_parts : {X : Type 0} (P : X → Type 0) (xs ys : List X) → AllByRecursion P (xs ++ ys) → AllByRecursion P xs × AllByRecursion P ys
all_parts P [] ys all = (tt, all)
all_parts P (x ∷ xs) ys all = let r = all_parts P xs ys all.1 in ((all.0, r.0), r.1)

pub all_both : {X : Type 0} (P : X → Type 0) (xs ys : List X) → AllByRecursion P xs → AllByRecursion P ys → AllByRecursion P (xs ++ ys)
all_both P [] ys all also = also
all_both P (x ∷ xs) ys all also = (all.0, all_both P xs ys all.1 also)

pub all_of_each : {X : Type 0} (P : X → Type 0) (xs : List X) → ((x : X) → IsOneOf x xs → P x) → AllByRecursion P xs
all_of_each P [] f = tt
all_of_each P (x ∷ xs) f = (f x (inl refl), all_of_each P xs (λ y e. f y (inr e)))

pub is_one_of : {X : Type 0} (xs : List X) (i : ℕ) (x : X) → slice_get xs i ≡ Some x → IsOneOf x xs
is_one_of [] i x e = absurd cc
is_one_of (y ∷ ys) zero x e = inl (one e)
is_one_of (y ∷ ys) (suc i) x e = inr (is_one_of ys i x e)

-- # No rule is broken

-- no rule is broken at the place
abbrev pub Lawfully : Names → Site → Type 0
Lawfully n s = (r : Numbered) → IsOneOf r rules → r.rule n s ≡ None

unbroken : (tree : List DeclTree) → IsLawful tree → (s : Site) → IsOneOf s (sites_of (names_of tree) tree) → Lawfully (names_of tree) s
unbroken tree lawful s at r of = by_span tree lawful s at r of (r.rule (names_of tree) s) refl where
  by_span : (tree : List DeclTree) → IsLawful tree → (s : Site) → IsOneOf s (sites_of (names_of tree) tree) → (r : Numbered) → IsOneOf r rules
      → (o : Option Span) → r.rule (names_of tree) s ≡ o → r.rule (names_of tree) s ≡ None
  by_span tree lawful s at r of None e = e
  by_span tree lawful s at r of (Some span) e = absurd (lawful (record { rule = r.number; span = span }) (s, at, (r, of, refl, e)))

pub all_lawful : (tree : List DeclTree) → IsLawful tree → AllByRecursion (Lawfully (names_of tree)) (sites_of (names_of tree) tree)
all_lawful tree lawful = all_of_each (Lawfully (names_of tree)) (sites_of (names_of tree) tree) (unbroken tree lawful)

pub kept_there : (n : Names) (words : ℕ → Bool) (s : Site) → Lawfully n s → has_number s ≡ true → is_quiet n words s ≡ true → Kept n words s
kept_there n words s is number quiet = record {
  t03 = is (rule 3 rule03) (is_one_of rules 2 _ refl);
  t04 = is (rule 4 rule04) (is_one_of rules 3 _ refl);
  t08 = is (rule 8 rule08) (is_one_of rules 7 _ refl);
  t09 = is (rule 9 rule09) (is_one_of rules 8 _ refl);
  t10 = is (rule 10 rule10) (is_one_of rules 9 _ refl);
  t12 = is (rule 12 rule12) (is_one_of rules 11 _ refl);
  t13 = is (rule 13 rule13) (is_one_of rules 12 _ refl);
  t14 = is (rule 14 rule14) (is_one_of rules 13 _ refl);
  t15 = is (rule 15 rule15) (is_one_of rules 14 _ refl);
  t16 = is (rule 16 rule16) (is_one_of rules 15 _ refl);
  t18 = is (rule 18 rule18) (is_one_of rules 17 _ refl);
  t21 = is (rule 21 rule21) (is_one_of rules 20 _ refl);
  t22 = is (rule 22 rule22) (is_one_of rules 21 _ refl);
  t23 = is (rule 23 rule23) (is_one_of rules 22 _ refl);
  number = number;
  quiet = quiet;
}

-- where the numbers fit and the uses are quiet, too
pub all_kept : (n : Names) (words : ℕ → Bool) (ss : List Site) → AllByRecursion (Lawfully n) ss → AllByRecursion (λ s. has_number s ≡ true) ss
    → AllByRecursion (λ s. is_quiet n words s ≡ true) ss → AllKept n words ss
all_kept n words [] is numbers quiet = tt
all_kept n words (s ∷ ss) is numbers quiet =
    (kept_there n words s is.0 numbers.0 quiet.0, all_kept n words ss is.1 numbers.1 quiet.1)

-- # Names

-- the later of two names is none of those before
pub names_fresh : (n : Names) (before : List Name) (xs : List Ident) → AllByRecursion (Lawfully n) (named_all before xs)
    → Fresh same_name before (map text_of xs)
names_fresh n before [] all = tt
names_fresh n before (x ∷ xs) all =
    (when_not _ _ (all.0 (rule 1 rule01) (is_one_of rules 0 _ refl)), names_fresh n (text_of x ∷ before) xs all.1)

abbrev pub ConsDiffer : TypeSort → Type 0
ConsDiffer TypeSort.id_type = Unit {0}
ConsDiffer TypeSort.opaque = Unit {0}
ConsDiffer (TypeSort.datatype cons) = IsDistinct flipped (map text_of (map con_name cons))

abbrev EntryDiffers : TypeEntry → Type 0
EntryDiffers e = ConsDiffer e.sort

-- the three lists of names that a declaration adds to
pub name_parts : (n : Names) (seen : Seen) (k : ℕ) (at : Span) (form : DeclForm) (ds : List DeclTree)
    → AllByRecursion (Lawfully n) (decl_sites n seen k (DeclTree.node at form ∷ ds))
    → AllByRecursion (Lawfully n) (named_all seen.others (declared_others form))
    × AllByRecursion (Lawfully n) (decl_sites n (with_decl seen form) (k + 1) ds)
name_parts n seen k at form ds all =
    let p = all_parts (Lawfully n) (name_sites seen form ++ inner_sites n k (used_from n (k + 1) ds) form) _ all in
    let q = all_parts (Lawfully n) (name_sites seen form) _ p.0 in
    let r = all_parts (Lawfully n) (named_all seen.types (declared_types form) ++ named_all seen.others (declared_others form)) _ q.0 in
    ((all_parts (Lawfully n) (named_all seen.types (declared_types form)) _ r.0).1, p.1)

cons_differ : (n : Names) (seen : Seen) (k : ℕ) (ds : List DeclTree) → AllByRecursion (Lawfully n) (decl_sites n seen k ds)
    → AllByRecursion EntryDiffers (types_from k ds)
cons_differ n seen k [] all = tt
cons_differ n seen k (DeclTree.node at (DeclForm.id_type x) ∷ ds) all =
    let r = name_parts n seen k at (DeclForm.id_type x) ds all in (tt, cons_differ n _ (k + 1) ds r.1)
cons_differ n seen k (DeclTree.node at (DeclForm.opaque x) ∷ ds) all =
    let r = name_parts n seen k at (DeclForm.opaque x) ds all in (tt, cons_differ n _ (k + 1) ds r.1)
cons_differ n seen k (DeclTree.node at (DeclForm.datatype x cons) ∷ ds) all =
    let r = name_parts n seen k at (DeclForm.datatype x cons) ds all in (
      (fresh_distinct same_name seen.others (map text_of (map con_name cons)) (names_fresh n seen.others (map con_name cons) r.0)).1,
      cons_differ n _ (k + 1) ds r.1,
    )
cons_differ n seen k (DeclTree.node at (DeclForm.crdt x c) ∷ ds) all = cons_differ n _ (k + 1) ds (name_parts n seen k at (DeclForm.crdt x c) ds all).1
cons_differ n seen k (DeclTree.node at (DeclForm.query q) ∷ ds) all = cons_differ n _ (k + 1) ds (name_parts n seen k at (DeclForm.query q) ds all).1
cons_differ n seen k (DeclTree.node at (DeclForm.invariant x e) ∷ ds) all = cons_differ n _ (k + 1) ds (name_parts n seen k at (DeclForm.invariant x e) ds all).1
cons_differ n seen k (DeclTree.node at (DeclForm.proc p) ∷ ds) all = cons_differ n _ (k + 1) ds (name_parts n seen k at (DeclForm.proc p) ds all).1

-- queries that are told apart leave the names as they are
types_stay : (n : Names) (ds : List DeclTree) → (with_formulas n ds).types ≡ n.types
types_stay n [] = refl
types_stay n (d ∷ ds) = types_stay (with_flag n (is_formula_decl n d)) ds

pub types_are : (tree : List DeclTree) → (names_of tree).types ≡ types_from 0 tree
types_are tree = types_stay (declared_names tree) tree

names_of_cases : (n : Names) (cons : List ConTree) → map text_of (map con_name cons) ≡ map case_name (map (con_case n) cons)
names_of_cases n [] = refl
names_of_cases n (c ∷ cons) = ap (λ xs. text_of (con_name c) ∷ xs) (names_of_cases n cons)

two_differ : (a b : Case) → flipped a.name b.name ≡ false → IsDistinct flipped (map case_name (a ∷ b ∷ []))
two_differ a b e =
    IsDistinct-cons flipped a.name (b.name ∷ []) (e, tt) (IsDistinct-cons flipped b.name [] tt (no_members flipped))

-- the cases of each type have different names
pub cases_differ : (tree : List DeclTree) → IsLawful tree → CasesDiffer (names_of tree)
cases_differ tree lawful k cs e = by_base (names_of tree) (cons_differ (names_of tree) nothing_seen 0 tree (all_lawful tree lawful)) k.base k.maybes cs e
    (types_are tree) where
      of_sort : (n : Names) (sort : TypeSort) (cs : List Case) → ConsDiffer sort → sort_cases n sort ≡ Some cs → IsDistinct flipped (map case_name cs)
      of_sort n TypeSort.id_type cs differ e = absurd cc
      of_sort n TypeSort.opaque cs differ e = absurd cc
      of_sort n (TypeSort.datatype cons) cs differ e =
          subst (λ z. IsDistinct flipped (map case_name z)) (one e) (subst (IsDistinct flipped) (names_of_cases n cons) differ)

      of_entry : (n : Names) (entries : List TypeEntry) (type : ℕ) (o : Option TypeEntry) (cs : List Case) → AllByRecursion EntryDiffers entries
          → slice_get entries type ≡ o → declared_cases n o ≡ Some cs → IsDistinct flipped (map case_name cs)
      of_entry n entries type None cs all is e = absurd cc
      of_entry n entries type (Some entry) cs all is e = of_sort n entry.sort cs (at_place EntryDiffers entries type entry all is) e

      of_maybe : (inside : Kind) (none : Bool) (cs : List Case) → cond none None (Some (maybe_cases inside)) ≡ Some cs → IsDistinct flipped (map case_name cs)
      of_maybe inside true cs e = absurd cc
      of_maybe inside false cs e =
          subst (λ z. IsDistinct flipped (map case_name z)) (one e) (two_differ (case (codes "none") []) (case (codes "some") (inside ∷ [])) refl)

      by_base : {entries : List TypeEntry} (n : Names) → AllByRecursion EntryDiffers entries → (b : Base) (m : ℕ) (cs : List Case)
          → cases_of n (record { base = b; maybes = m }) ≡ Some cs → n.types ≡ entries → IsDistinct flipped (map case_name cs)
      by_base n all b (suc m) cs e types = of_maybe (record { base = b; maybes = m }) (is_open b && m == 0) cs e
      by_base n all base.Bool zero cs e types =
          subst (λ z. IsDistinct flipped (map case_name z)) (one e) (two_differ (case (codes "false") []) (case (codes "true") []) refl)
      by_base {entries} n all (base.Declared type) zero cs e types =
          of_entry n entries type (slice_get n.types type) cs all (ap (λ z. slice_get z type) (sym types)) e
      by_base n all base.Int zero cs e types = absurd cc
      by_base n all base.Text zero cs e types = absurd cc
      by_base n all base.Call zero cs e types = absurd cc
      by_base n all base.Invocation zero cs e types = absurd cc
      by_base n all base.Operation zero cs e types = absurd cc
      by_base n all base.Info zero cs e types = absurd cc
      by_base n all base.Outcome zero cs e types = absurd cc
      by_base n all base.Unknown zero cs e types = absurd cc
      by_base n all base.Open zero cs e types = absurd cc
