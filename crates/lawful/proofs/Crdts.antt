-- The replicated types of a lawful text's roots are well formed.
use Rattle.std.proofs.Common.{◌≡◌, ◌+◌, ℕ, zero, suc, true, false, not, ◌&&◌, cond, List, [], ◌∷◌, map, length, Some, refl, ap, subst, sym, ◌∙◌, arith}
use Rattle.std.specs.Prelude.{filter_map, nat_le, slice_get}
use Rattle.std.specs.List.{AllByRecursion, IsDistinct, cons_option, list_any}
use Rattle.std.proofs.lemmas.Bool.{and_from, lt-ltb, ne_eqb, not-false}
use Rattle.std.proofs.lemmas.Cmp.{nat_list_eq_equiv}
use Rattle.std.proofs.lemmas.List.Quantifiers.{position-Some}
use Rattle.std.proofs.lemmas.Map.Keys.{IsDistinct-head, IsDistinct-tail}
use Rattle.rp_value.specs.declared.tables.Ty.{Ty}
use Rattle.rp_value.specs.declared.tables.Ty.TheVariants as ty
use Rattle.rp_grammar.specs.Trees.{TypeTree, ConTree, CrdtTree, CrdtForm, FieldTree, FieldTrees, QueryTree, ProcTree, DeclForm, DeclTree}
use Rattle.rp_grammar.specs.Texts.{IsText}
use Rattle.rp_lang.specs.Crdts.{Cr, SetAw, SetRw, Reg, MvReg, MapUw, MapDw, Struct, CrFields, also_field}
use Rattle.rp_lang.specs.FirstForm.{are_distinct}
use Rattle.rp_lang.specs.Paths.{has_fields, is_crdt, are_crdts}
use Rattle.rp_lang.specs.Paths as paths
use Rattle.rp_lang.specs.Programs.{Prog, Rt}
use Rattle.rp_lang.specs.Types.{is_ordinary}
use Rattle.rp_lang.specs.Typing.{in_invariant}
use Rattle.rp_lang.specs.WellFormed.{are_roots}
use Rattle.rp_grammar.proofs.Formed.{FormedCrdt, FormedCrdtForm, FormedFields, FormedDecls}
use Rattle.rp_grammar.proofs.FormedTexts.{Lexable, text_formed}
use Rattle.type_rules.specs.declared.kind.Kind.{Kind}
use Rattle.type_rules.specs.declared.kind.Base.{Base}
use Rattle.type_rules.specs.declared.kind.Base.TheVariants as base
use Rattle.type_rules.specs.declared.role.Role.TheVariants as role
use Rattle.type_rules.specs.Names.{Name, Names, Entry, Declared, TypeEntry, TypeSort, same_name, text_of, types_in, con_entry, entries_from}
use Rattle.type_rules.specs.Kinds.{bool_kind, kind_of}
use Rattle.type_rules.specs.Kinds as kinds
use Rattle.type_rules.specs.Queries.{names_of}
use Rattle.type_rules.specs.Sites.{Site}
use Rattle.type_rules.specs.DeclSites.{field_names, named_all, crdt_sites, crdt_form_sites, fields_sites}
use Rattle.type_rules.specs.TextSites.{Seen, nothing_seen, with_decl, decl_sites}
use Rattle.type_rules.specs.Rules.{rules, rule, rule07}
use Rattle.desugaring.specs.Appearances.{same_kind}
use Rattle.desugaring.specs.Objects.{Root, root_in}
use Rattle.desugaring.specs.Tables.{Tables, tables_of, type_table, data_decls, cons_of, datatype_number, datatype_ty, base_ty, sort_ty, ty_of, cr_of, form_cr, fields_cr, root_of, root_with}
use Rattle.desugaring.specs.Limits.{HasProgram}
use Rattle.desugaring.proofs.Options.{then_there, map_there, both_there, each_there}
use Rattle.lawful.proofs.Basics.{when_not}
use Rattle.lawful.proofs.Forms.{one}
use Rattle.lawful.proofs.Distinct.{fresh_distinct}
use Rattle.lawful.proofs.Arms.{flipped}
use Rattle.lawful.proofs.Places.{Lawfully, all_parts, all_both, all_lawful, is_one_of, names_fresh}
use Rattle.lawful.proofs.Entries.{entries_are}
use Rattle.lawful.proofs.Atoms.{atom_sort}
use Rattle.lawful.proofs.Behind.{decl_parts}
use Rattle.lawful.proofs.Results.{pointwise_all}
use Rattle.lawful.proofs.Flows.{either_false}
use Rattle.lawful.proofs.Within.{within}

-- # Types of data

decls_long : (n : Names) (next : ℕ) (ks : List Kind) → length (data_decls n next ks) ≡ length ks
decls_long n next [] = refl
decls_long n next (k ∷ ks) = let r = decls_long n (next + length (cons_of n k)) ks in omega (arith, r)

pub data_ordinary : (t : Tables) (p : Prog) → p.types ≡ type_table t → (k : Kind) (of : Ty) → datatype_ty t k ≡ Some of → is_ordinary p.types of ≡ true
data_ordinary t p types k of e =
    map_there (λ z. is_ordinary p.types z ≡ true) ty.Datatype (datatype_number t k) of e (λ i found.
    let place = position-Some (same_kind k) t.datatypes i bool_kind found in
    let long = decls_long t.names 0 t.datatypes in
    subst (λ z. is_ordinary z (ty.Datatype i) ≡ true) (sym types) (lt-ltb i (length (data_decls t.names 0 t.datatypes)) (omega (arith, place.0, long))))

sort_ordinary : (t : Tables) (p : Prog) → p.types ≡ type_table t → (type : ℕ) (entry : TypeEntry) (sort : TypeSort) → entry.sort ≡ sort
    → slice_get t.names.types type ≡ Some entry → (of : Ty) → sort_ty t type sort ≡ Some of → is_ordinary p.types of ≡ true
sort_ordinary t p types type entry (TypeSort.datatype cons) sorted at of e = data_ordinary t p types (kinds.plain_kind (base.Declared type)) of e
sort_ordinary t p types type entry TypeSort.id_type sorted at of e =
    subst (λ z. is_ordinary p.types z ≡ true) (one e)
    (atom_sort t p types type entry at (rw sorted refl) _ (subst (λ s. sort_ty t type s ≡ sort_ty t type TypeSort.id_type) (sym sorted) refl) in_invariant)
sort_ordinary t p types type entry TypeSort.opaque sorted at of e =
    subst (λ z. is_ordinary p.types z ≡ true) (one e)
    (atom_sort t p types type entry at (rw sorted refl) _ (subst (λ s. sort_ty t type s ≡ sort_ty t type TypeSort.opaque) (sym sorted) refl) in_invariant)

pub kind_ordinary : (t : Tables) (p : Prog) → p.types ≡ type_table t → (b : Base) (m : ℕ) (of : Ty) → kinds.is_ordinary_base b ≡ true
    → ty_of t (record { base = b; maybes = m }) ≡ Some of → is_ordinary p.types of ≡ true
kind_ordinary t p types b (suc m) of data_ e =
    data_ordinary t p types (record { base = b; maybes = suc m }) of
    (sym (ap (λ z. cond z (base_ty t b) (datatype_ty t (record { base = b; maybes = suc m }))) (ne_eqb (suc m) 0 (omega arith))) ∙ e)
kind_ordinary t p types base.Bool zero of data_ e = data_ordinary t p types bool_kind of e
kind_ordinary t p types base.Int zero of data_ e = subst (λ z. is_ordinary p.types z ≡ true) (one e) refl
kind_ordinary t p types base.Text zero of data_ e = subst (λ z. is_ordinary p.types z ≡ true) (one e) refl
kind_ordinary t p types (base.Declared type) zero of data_ e =
    then_there (λ entry. sort_ty t type entry.sort) (slice_get t.names.types type) of e (λ entry at is. sort_ordinary t p types type entry entry.sort refl at of is)
kind_ordinary t p types base.Call zero of data_ e = absurd cc
kind_ordinary t p types base.Invocation zero of data_ e = absurd cc
kind_ordinary t p types base.Operation zero of data_ e = absurd cc
kind_ordinary t p types base.Info zero of data_ e = absurd cc
kind_ordinary t p types base.Outcome zero of data_ e = absurd cc
kind_ordinary t p types base.Unknown zero of data_ e = absurd cc
kind_ordinary t p types base.Open zero of data_ e = absurd cc

field_ordinary : (t : Tables) (p : Prog) → p.types ≡ type_table t → (k : ℕ) (written : TypeTree) (of : Ty) → Lawfully t.names (Site.written k role.Field written)
    → ty_of t (kind_of t.names written) ≡ Some of → is_ordinary p.types of ≡ true
field_ordinary t p types k written of law e =
    let kind = kind_of t.names written in
    kind_ordinary t p types kind.base kind.maybes of (not-false _ (when_not _ _ (law (rule 7 rule07) (is_one_of rules 6 _ refl)))) e

-- # Names of fields

none_same : (x : Name) (xs : List Name) → AllByRecursion (λ y. flipped x y ≡ false) xs → list_any (same_name x) xs ≡ false
none_same x [] all = refl
none_same x (y ∷ ys) all = either_false (same_name x y) _ (nat_list_eq_equiv.symm x y ∙ all.0) (none_same x ys all.1)

pub names_distinct : (xs : List Name) → IsDistinct flipped xs → are_distinct xs ≡ true
names_distinct [] d = refl
names_distinct (x ∷ xs) d =
    and_from _ _ (ap not (none_same x xs (IsDistinct-head flipped x xs d))) (names_distinct xs (IsDistinct-tail flipped x xs d))

names_made : (t : Tables) (fields : FieldTrees) (made : CrFields) → fields_cr t fields ≡ Some made → paths.field_names made ≡ map text_of (field_names fields)
names_made t FieldTrees.no_fields made e = ap paths.field_names (sym (one e))
names_made t (FieldTrees.more_fields (FieldTree.field x c) fields) made e =
    both_there (λ z. paths.field_names z ≡ text_of x ∷ map text_of (field_names fields)) (also_field (text_of x)) (cr_of t c) (fields_cr t fields) made e
    (λ cr rest a b. ap (λ xs. text_of x ∷ xs) (names_made t fields rest b))

some_made : (t : Tables) (f : FieldTree) (fields : FieldTrees) (made : CrFields) → fields_cr t (FieldTrees.more_fields f fields) ≡ Some made → has_fields made ≡ true
some_made t (FieldTree.field x c) fields made e =
    both_there (λ z. has_fields z ≡ true) (also_field (text_of x)) (cr_of t c) (fields_cr t fields) made e (λ cr rest a b. refl)

-- # Replicated types

mutual
  crdt_good : (t : Tables) (p : Prog) → p.types ≡ type_table t → (k : ℕ) (c : CrdtTree) (cr : Cr) → FormedCrdt Lexable c
      → AllByRecursion (Lawfully t.names) (crdt_sites k c) → cr_of t c ≡ Some cr → is_crdt p.types cr ≡ true
  crdt_good t p types k (CrdtTree.node at form) cr h laws e = form_good t p types k form cr h laws e

  form_good : (t : Tables) (p : Prog) → p.types ≡ type_table t → (k : ℕ) (form : CrdtForm) (cr : Cr) → FormedCrdtForm Lexable form
      → AllByRecursion (Lawfully t.names) (crdt_form_sites k form) → form_cr t form ≡ Some cr → is_crdt p.types cr ≡ true
  form_good t p types k (CrdtForm.set_aw w) cr h laws e =
      map_there (λ z. is_crdt p.types z ≡ true) SetAw (ty_of t (kind_of t.names w)) cr e (λ of is. field_ordinary t p types k w of laws.0 is)
  form_good t p types k (CrdtForm.set_rw w) cr h laws e =
      map_there (λ z. is_crdt p.types z ≡ true) SetRw (ty_of t (kind_of t.names w)) cr e (λ of is. field_ordinary t p types k w of laws.0 is)
  form_good t p types k (CrdtForm.reg w) cr h laws e =
      map_there (λ z. is_crdt p.types z ≡ true) Reg (ty_of t (kind_of t.names w)) cr e (λ of is. field_ordinary t p types k w of laws.0 is)
  form_good t p types k (CrdtForm.mv_reg w) cr h laws e =
      map_there (λ z. is_crdt p.types z ≡ true) MvReg (ty_of t (kind_of t.names w)) cr e (λ of is. field_ordinary t p types k w of laws.0 is)
  form_good t p types k CrdtForm.counter cr h laws e = subst (λ z. is_crdt p.types z ≡ true) (one e) refl
  form_good t p types k (CrdtForm.map_uw w c) cr h laws e =
      both_there (λ z. is_crdt p.types z ≡ true) MapUw (ty_of t (kind_of t.names w)) (cr_of t c) cr e
      (λ of inner a b. and_from (is_ordinary p.types of) (is_crdt p.types inner) (field_ordinary t p types k w of laws.0 a) (crdt_good t p types k c inner h.1 laws.1 b))
  form_good t p types k (CrdtForm.map_dw w c) cr h laws e =
      both_there (λ z. is_crdt p.types z ≡ true) MapDw (ty_of t (kind_of t.names w)) (cr_of t c) cr e
      (λ of inner a b. and_from (is_ordinary p.types of) (is_crdt p.types inner) (field_ordinary t p types k w of laws.0 a) (crdt_good t p types k c inner h.1 laws.1 b))
  form_good t p types k (CrdtForm.struct FieldTrees.no_fields) cr h laws e = absurd h
  form_good t p types k (CrdtForm.struct (FieldTrees.more_fields (FieldTree.field x c) fields)) cr h laws e =
      let all = FieldTrees.more_fields (FieldTree.field x c) fields in
      let parts = all_parts (Lawfully t.names) (named_all [] (field_names all)) (fields_sites k all) laws in
      let differ = (fresh_distinct same_name [] (map text_of (field_names all)) (names_fresh t.names [] (field_names all) parts.0)).1 in
      map_there (λ z. is_crdt p.types z ≡ true) Struct (fields_cr t all) cr e
      (λ made is. and_from (has_fields made && are_distinct (paths.field_names made)) (are_crdts p.types made)
      (and_from (has_fields made) (are_distinct (paths.field_names made)) (some_made t (FieldTree.field x c) fields made is)
      (subst (λ xs. are_distinct xs ≡ true) (sym (names_made t all made is)) (names_distinct (map text_of (field_names all)) differ)))
      (both_there (λ z. are_crdts p.types z ≡ true) (also_field (text_of x)) (cr_of t c) (fields_cr t fields) made is
      (λ inner rest a b.
      let own = all_parts (Lawfully t.names) (crdt_sites k c) (fields_sites k fields) parts.1 in
      and_from (is_crdt p.types inner) (are_crdts p.types rest) (crdt_good t p types k c inner h.0.1 own.0 a) (fields_good t p types k fields rest h.1 own.1 b))))

  fields_good : (t : Tables) (p : Prog) → p.types ≡ type_table t → (k : ℕ) (fields : FieldTrees) (made : CrFields) → FormedFields Lexable fields
      → AllByRecursion (Lawfully t.names) (fields_sites k fields) → fields_cr t fields ≡ Some made → are_crdts p.types made ≡ true
  fields_good t p types k FieldTrees.no_fields made h laws e = subst (λ z. are_crdts p.types z ≡ true) (one e) refl
  fields_good t p types k (FieldTrees.more_fields (FieldTree.field x c) fields) made h laws e =
      both_there (λ z. are_crdts p.types z ≡ true) (also_field (text_of x)) (cr_of t c) (fields_cr t fields) made e
      (λ inner rest a b.
      let own = all_parts (Lawfully t.names) (crdt_sites k c) (fields_sites k fields) laws in
      and_from (is_crdt p.types inner) (are_crdts p.types rest) (crdt_good t p types k c inner h.0.1 own.0 a) (fields_good t p types k fields rest h.1 own.1 b))

-- # Roots

abbrev CrdtFacts : Names → CrdtTree → Type 0
CrdtFacts n c = (k : ℕ) × AllByRecursion (Lawfully n) (crdt_sites k c) × FormedCrdt Lexable c

abbrev WhatFacts : Names → Declared → Type 0
WhatFacts n (Declared.root c) = CrdtFacts n c
WhatFacts n (Declared.query q) = Unit {0}
WhatFacts n (Declared.proc q) = Unit {0}
WhatFacts n (Declared.con type c) = Unit {0}

abbrev EntryFacts : Names → Entry → Type 0
EntryFacts n e = WhatFacts n e.what

cons_pass : (n : Names) (k type : ℕ) (cons : List ConTree) → AllByRecursion (EntryFacts n) (map (con_entry k type) cons)
cons_pass n k type [] = tt
cons_pass n k type (c ∷ cons) = (tt, cons_pass n k type cons)

all_facts : (n : Names) (seen : Seen) (k type : ℕ) (ds : List DeclTree) → AllByRecursion (Lawfully n) (decl_sites n seen k ds) → FormedDecls Lexable ds
    → AllByRecursion (EntryFacts n) (entries_from k type ds)
all_facts n seen k type [] laws h = tt
all_facts n seen k type (DeclTree.node at (DeclForm.id_type x) ∷ ds) laws h =
    let form = DeclForm.id_type x in all_facts n (with_decl seen form) (k + 1) _ ds (decl_parts (Lawfully n) n seen k at form ds laws).1 h.1
all_facts n seen k type (DeclTree.node at (DeclForm.opaque x) ∷ ds) laws h =
    let form = DeclForm.opaque x in all_facts n (with_decl seen form) (k + 1) _ ds (decl_parts (Lawfully n) n seen k at form ds laws).1 h.1
all_facts n seen k type (DeclTree.node at (DeclForm.datatype x cons) ∷ ds) laws h =
    let form = DeclForm.datatype x cons in
    let next = type + length (types_in k (DeclTree.node at form)) in
    all_both (EntryFacts n) (map (con_entry k type) cons) (entries_from (k + 1) next ds) (cons_pass n k type cons)
    (all_facts n (with_decl seen form) (k + 1) next ds (decl_parts (Lawfully n) n seen k at form ds laws).1 h.1)
all_facts n seen k type (DeclTree.node at (DeclForm.crdt x c) ∷ ds) laws h =
    let form = DeclForm.crdt x c in
    let p = decl_parts (Lawfully n) n seen k at form ds laws in
    ((k, p.0, h.0.1), all_facts n (with_decl seen form) (k + 1) _ ds p.1 h.1)
all_facts n seen k type (DeclTree.node at (DeclForm.query (QueryTree.query x params result body)) ∷ ds) laws h =
    let form = DeclForm.query (QueryTree.query x params result body) in
    (tt, all_facts n (with_decl seen form) (k + 1) _ ds (decl_parts (Lawfully n) n seen k at form ds laws).1 h.1)
all_facts n seen k type (DeclTree.node at (DeclForm.invariant x e) ∷ ds) laws h =
    let form = DeclForm.invariant x e in all_facts n (with_decl seen form) (k + 1) _ ds (decl_parts (Lawfully n) n seen k at form ds laws).1 h.1
all_facts n seen k type (DeclTree.node at (DeclForm.proc (ProcTree.proc x params result body)) ∷ ds) laws h =
    let form = DeclForm.proc (ProcTree.proc x params result body) in
    (tt, all_facts n (with_decl seen form) (k + 1) _ ds (decl_parts (Lawfully n) n seen k at form ds laws).1 h.1)

abbrev RootFacts : Names → Root → Type 0
RootFacts n root = CrdtFacts n root.crdt

roots_facts : (n : Names) (es : List Entry) → AllByRecursion (EntryFacts n) es
    → AllByRecursion (RootFacts n) (filter_map (λ (entry : Entry). root_in entry.name entry.what) es)
roots_facts n [] all = tt
roots_facts n (e ∷ es) all = by_what n e.name e.what (filter_map (λ (entry : Entry). root_in entry.name entry.what) es) all.0 (roots_facts n es all.1) where
  by_what : (n : Names) (name : Name) (what : Declared) (rest : List Root) → WhatFacts n what → AllByRecursion (RootFacts n) rest
      → AllByRecursion (RootFacts n) (cons_option (root_in name what) rest)
  by_what n name (Declared.root c) rest here all = (here, all)
  by_what n name (Declared.query q) rest here all = all
  by_what n name (Declared.proc q) rest here all = all
  by_what n name (Declared.con type c) rest here all = all

pub roots_well_formed : (bytes : List ℕ) (tree : List DeclTree) → IsText bytes tree → (p : Prog) → HasProgram tree p → are_roots p.types p.roots ≡ true
roots_well_formed bytes tree text p has =
    let t = tables_of tree in
    let n = names_of tree in
    let facts = all_facts n nothing_seen 0 0 tree (all_lawful tree has.0.0) (text_formed bytes tree text) in
    let roots = roots_facts n n.entries (subst (AllByRecursion (EntryFacts n)) (sym (entries_are tree)) facts) in
    let made = each_there (λ (r : Root) (rt : Rt). root_of t r ≡ Some rt) (root_of t) (λ r rt e. e) t.roots p.roots has.0.1.roots in
    and_from (nat_le (length p.roots) 64) _ (within p has.1).roots
    (pointwise_all (λ (r : Root) (rt : Rt). root_of t r ≡ Some rt) (RootFacts n) (λ (rt : Rt). is_crdt p.types rt.crdt) t.roots p.roots made roots
    (λ r rt known e. map_there (λ (z : Rt). is_crdt p.types z.crdt ≡ true) (root_with r.name) (cr_of t r.crdt) rt e
    (λ cr is. crdt_good t p has.0.1.types known.0 r.crdt cr known.2 known.1 is)))
