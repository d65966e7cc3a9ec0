-- Each datatype of a lawful text has a number with all its fields: the table of constructors is there.
use Rattle.std.proofs.Common.{◌≡◌, ◌≤◌, ℕ, zero, suc, Bool, true, false, not, cond, List, [], ◌∷◌, ◌++◌, map, length, Option, Some, None, refl, ap, subst, sym, ◌∙◌, arith, inl, inr}
use Rattle.std.specs.Prelude.{slice_get, reverse, flat_map, unwrap_or}
use Rattle.std.specs.List.{AllByRecursion, filter}
use Rattle.std.proofs.lemmas.Grind.{reverse_onto}
use Rattle.std.proofs.lemmas.List.{append_assoc, length-reverse, reverse-reverse}
use Rattle.rp_value.specs.declared.tables.ConDecl.{ConDecl}
use Rattle.rp_value.specs.declared.tables.ConTable.{ConTable}
use Rattle.rp_grammar.specs.Trees.{CrdtTree, CrdtForm, FieldTree, FieldTrees, ExprTree, ExprForm}
use Rattle.type_rules.specs.declared.kind.Kind.{Kind}
use Rattle.type_rules.specs.declared.kind.Base.{Base}
use Rattle.type_rules.specs.declared.kind.Base.TheVariants as base
use Rattle.type_rules.specs.Names.{TypeEntry, TypeSort}
use Rattle.type_rules.specs.Kinds.{kind_of, plain_kind}
use Rattle.type_rules.specs.Sites.{Site}
use Rattle.type_rules.specs.Matches.{Case, cases_of}
use Rattle.type_rules.specs.Faults.{IsOneOf}
use Rattle.desugaring.specs.Parts.{each}
use Rattle.desugaring.specs.Appearances.{base_parts, crdt_kinds, each_once, field_kinds, fields_kinds, form_kinds, is_declared, maybes_of, parts, same_kind, site_kinds, sort_parts, with_maybes}
use Rattle.desugaring.specs.Tables.{Con, Tables, con_decl, con_of, con_table, cons, cons_of, datatype_number, table_with, ty_of}
use Rattle.desugaring.proofs.Options.{both_is, map_is}
use Rattle.lawful.proofs.Distinct.{at_place}
use Rattle.lawful.proofs.Listed.{position_there}
use Rattle.lawful.proofs.Places.{all_both}
use Rattle.lawful_programs.specs.Valued.{Sound, AllSound, IsWhole, AllWhole}
use Rattle.lawful_programs.proofs.Wholes.{bare_whole, kind_self, whole_not_any, written_whole}
use Rattle.lawful_programs.proofs.Bases.{EntryBased, Numbered, TypesBased, base_whole, declared_whole}
use Rattle.lawful_programs.proofs.Crdts.{CrdtWhole, FieldsWhole, FormWhole}
use Rattle.lawful_programs.proofs.Fields.{CaseWhole, CasesWhole, cases_whole}
use Rattle.lawful_programs.proofs.Invariants.{each_total}
use Rattle.lawful_programs.proofs.Tables.{tys_there}
use Rattle.lawful_programs.proofs.Walk.{PlaceWhole, Wholes}

-- # Parts of a type

maybes_whole : (t : Tables) (b : Base) (m top : ℕ) → m ≤ top → IsWhole t (record { base = b; maybes = top }) → AllWhole t (maybes_of b m)
maybes_whole t b zero top e whole = tt
maybes_whole t b (suc m) top e whole =
    all_both (IsWhole t) (maybes_of b m) (record { base = b; maybes = suc m } ∷ []) (maybes_whole t b m top (omega (arith, e)) whole)
    ((λ i less. whole i (omega (arith, e, less))), tt)

fields_with : (t : Tables) (inner : Base → List Kind) → ((b : Base) → AllWhole t (inner b)) → (ks : List Kind) → AllWhole t ks → AllWhole t (flat_map (with_maybes inner) ks)
fields_with t inner all [] whole = tt
fields_with t inner all (k ∷ ks) whole =
    all_both (IsWhole t) (with_maybes inner k) (flat_map (with_maybes inner) ks)
    (all_both (IsWhole t) (inner k.base) (maybes_of k.base k.maybes) (all k.base) (maybes_whole t k.base k.maybes k.maybes (omega arith) whole.0))
    (fields_with t inner all ks whole.1)

at_end : {X : Type 0} (before : List X) (x : X) (rest : List X) (i : ℕ) → length before ≡ i → slice_get (before ++ x ∷ rest) i ≡ Some x
at_end [] x rest zero e = refl
at_end [] x rest (suc i) e = absurd (omega (arith, e))
at_end (b ∷ before) x rest zero e = absurd (omega (arith, e))
at_end (b ∷ before) x rest (suc i) e = at_end before x rest i (omega (arith, e))

-- the list has the types that are declared before some place, the last first
bases_whole : (t : Tables) → Numbered t → TypesBased t.names → (late rest : List TypeEntry) → reverse late ++ rest ≡ t.names.types → (b : Base)
    → AllWhole t (base_parts t.names late b)
bases_whole t numbered based [] rest same b = tt
bases_whole t numbered based (e ∷ before) rest same b =
    let n = t.names in
    let split : reverse before ++ (e ∷ rest) ≡ n.types = sym (append_assoc (reverse before) (e ∷ []) rest) ∙ ap (λ xs. xs ++ rest) (sym (reverse_onto before e [])) ∙ same in
    let at : slice_get n.types (length before) ≡ Some e =
    subst (λ xs. slice_get xs (length before) ≡ Some e) split (at_end (reverse before) e rest (length before) (length-reverse before)) in
    let inner = bases_whole t numbered based before (e ∷ rest) split in
    by_test t numbered based before e b at inner (is_declared (length before) b) where
      by_sort : (t : Tables) → Numbered t → TypesBased t.names → (before : List TypeEntry) (e : TypeEntry) (sort : TypeSort) → e.sort ≡ sort
          → slice_get t.names.types (length before) ≡ Some e → ((b : Base) → AllWhole t (base_parts t.names before b))
          → AllWhole t (sort_parts t.names (base_parts t.names before) (length before) sort)
      by_sort t numbered based before e TypeSort.id_type sorted at inner = tt
      by_sort t numbered based before e TypeSort.opaque sorted at inner = tt
      by_sort t numbered based before e (TypeSort.datatype cons_) sorted at inner =
          let type = length before in
          let fields = declared_whole t numbered type e cons_ at sorted (at_place (EntryBased t.names) t.names.types type e based at) in
          all_both (IsWhole t) (flat_map (with_maybes (base_parts t.names before)) (field_kinds t.names cons_)) (plain_kind (base.Declared type) ∷ [])
          (fields_with t (base_parts t.names before) inner (field_kinds t.names cons_) fields)
          (bare_whole t (base.Declared type) (base_whole t numbered (base.Declared type) (e, at)), tt)

      by_test : (t : Tables) → Numbered t → TypesBased t.names → (before : List TypeEntry) (e : TypeEntry) (b : Base)
          → slice_get t.names.types (length before) ≡ Some e → ((b : Base) → AllWhole t (base_parts t.names before b)) → (own : Bool)
          → AllWhole t (cond own (sort_parts t.names (base_parts t.names before) (length before) e.sort) (base_parts t.names before b))
      by_test t numbered based before e b at inner true = by_sort t numbered based before e e.sort refl at inner
      by_test t numbered based before e b at inner false = inner b

no_more_types : (es : List TypeEntry) → es ++ [] ≡ es
no_more_types [] = refl
no_more_types (e ∷ es) = ap (λ z. e ∷ z) (no_more_types es)

pub parts_whole : (t : Tables) → Numbered t → TypesBased t.names → (k : Kind) → IsWhole t k → AllWhole t (parts t.names k)
parts_whole t numbered based k whole =
    let types = t.names.types in
    let same : reverse (reverse types) ++ [] ≡ types = no_more_types (reverse (reverse types)) ∙ reverse-reverse types in
    all_both (IsWhole t) (base_parts t.names (reverse types) k.base) (maybes_of k.base k.maybes) (bases_whole t numbered based (reverse types) [] same k.base)
    (maybes_whole t k.base k.maybes k.maybes (omega arith) whole)

-- # What places and roots speak of

site_whole : (t : Tables) → Numbered t → TypesBased t.names → (s : Site) → Sound t s → PlaceWhole t s → AllWhole t (site_kinds t.names s)
site_whole t numbered based (Site.written decl r ty) sound whole = parts_whole t numbered based (kind_of t.names ty) (written_whole t numbered.bool decl r ty sound)
site_whole t numbered based (Site.place sc w (ExprTree.node at (ExprForm.some_of e))) sound whole = parts_whole t numbered based _ whole
site_whole t numbered based (Site.place sc w (ExprTree.node at _)) sound whole = tt
site_whole t numbered based _ sound whole = tt

pub sites_whole : (t : Tables) → Numbered t → TypesBased t.names → (ss : List Site) → AllSound t ss → Wholes t ss → AllWhole t (flat_map (site_kinds t.names) ss)
sites_whole t numbered based [] sound whole = tt
sites_whole t numbered based (s ∷ ss) sound whole =
    all_both (IsWhole t) (site_kinds t.names s) (flat_map (site_kinds t.names) ss) (site_whole t numbered based s sound.0 whole.0)
    (sites_whole t numbered based ss sound.1 whole.1)

mutual
  pub crdt_parts : (t : Tables) → Numbered t → TypesBased t.names → (c : CrdtTree) → CrdtWhole t c → AllWhole t (crdt_kinds t.names c)
  crdt_parts t numbered based (CrdtTree.node at form) whole = form_parts t numbered based form whole

  form_parts : (t : Tables) → Numbered t → TypesBased t.names → (form : CrdtForm) → FormWhole t form → AllWhole t (form_kinds t.names form)
  form_parts t numbered based (CrdtForm.set_aw e) whole = parts_whole t numbered based _ whole
  form_parts t numbered based (CrdtForm.set_rw e) whole = parts_whole t numbered based _ whole
  form_parts t numbered based (CrdtForm.reg e) whole = parts_whole t numbered based _ whole
  form_parts t numbered based (CrdtForm.mv_reg e) whole = parts_whole t numbered based _ whole
  form_parts t numbered based CrdtForm.counter whole = tt
  form_parts t numbered based (CrdtForm.map_uw k c) whole =
      all_both (IsWhole t) (parts t.names (kind_of t.names k)) (crdt_kinds t.names c) (parts_whole t numbered based _ whole.0) (crdt_parts t numbered based c whole.1)
  form_parts t numbered based (CrdtForm.map_dw k c) whole =
      all_both (IsWhole t) (parts t.names (kind_of t.names k)) (crdt_kinds t.names c) (parts_whole t numbered based _ whole.0) (crdt_parts t numbered based c whole.1)
  form_parts t numbered based (CrdtForm.struct parts_) whole = fields_parts t numbered based parts_ whole

  fields_parts : (t : Tables) → Numbered t → TypesBased t.names → (parts_ : FieldTrees) → FieldsWhole t parts_ → AllWhole t (fields_kinds t.names parts_)
  fields_parts t numbered based FieldTrees.no_fields whole = tt
  fields_parts t numbered based (FieldTrees.more_fields (FieldTree.field x c) others) whole =
      all_both (IsWhole t) (crdt_kinds t.names c) (fields_kinds t.names others) (crdt_parts t numbered based c whole.0) (fields_parts t numbered based others whole.1)

-- # Each once

filter_whole : (t : Tables) (test : Kind → Bool) (ks : List Kind) → AllWhole t ks → AllWhole t (filter test ks)
filter_whole t test [] all = tt
filter_whole t test (k ∷ ks) all = by_test t test k ks (test k) all.0 (filter_whole t test ks all.1) where
  by_test : (t : Tables) (test : Kind → Bool) (k : Kind) (ks : List Kind) (stays : Bool) → IsWhole t k → AllWhole t (filter test ks)
      → AllWhole t (cond stays (k ∷ filter test ks) (filter test ks))
  by_test t test k ks true first rest = (first, rest)
  by_test t test k ks false first rest = rest

pub once_whole : (t : Tables) (ks : List Kind) → AllWhole t ks → AllWhole t (each_once ks)
once_whole t [] all = tt
once_whole t (k ∷ ks) all = (all.0, filter_whole t (λ other. not (same_kind k other)) (each_once ks) (once_whole t ks all.1))

-- # Constructors

abbrev ConWhole : Tables → Con → Type 0
ConWhole t c = (IsOneOf c.of t.datatypes × IsWhole t c.of) × AllWhole t c.fields

type_cons : (t : Tables) (k : Kind) (cs : List Case) → IsOneOf k t.datatypes → IsWhole t k → AllByRecursion (CaseWhole t) cs
    → AllByRecursion (ConWhole t) (map (λ (c : Case). record { name = c.name; of = k; fields = c.fields }) cs)
type_cons t k [] at whole all = tt
type_cons t k (c ∷ cs) at whole all = (((at, whole), all.0), type_cons t k cs at whole all.1)

all_cons : (t : Tables) → Numbered t → TypesBased t.names → (ks : List Kind) → ((k : Kind) → IsOneOf k ks → IsOneOf k t.datatypes) → AllWhole t ks
    → AllByRecursion (ConWhole t) (flat_map (cons_of t.names) ks)
all_cons t numbered based [] among all = tt
all_cons t numbered based (k ∷ ks) among all =
    all_both (ConWhole t) (cons_of t.names k) (flat_map (cons_of t.names) ks)
    (by_cases t k (cases_of t.names k) (among k (inl refl)) all.0 (cases_whole t numbered based k.base k.maybes all.0))
    (all_cons t numbered based ks (λ j h. among j (inr h)) all.1) where
      by_cases : (t : Tables) (k : Kind) (o : Option (List Case)) → IsOneOf k t.datatypes → IsWhole t k → CasesWhole t o
          → AllByRecursion (ConWhole t) (map (λ (c : Case). record { name = c.name; of = k; fields = c.fields }) (unwrap_or o []))
      by_cases t k None at whole all = tt
      by_cases t k (Some cs) at whole all = type_cons t k cs at whole all

con_there : (t : Tables) (c : Con) → ConWhole t c → (d : ConDecl) × (con_decl t c ≡ Some d)
con_there t c whole =
    let number = position_there (same_kind c.of) c.of t.datatypes (kind_self c.of (whole_not_any t c.of whole.0.1)) whole.0.0 in
    let fields = tys_there t c.fields whole.1 in
    (con_of c.name number.0 fields.0, both_is (con_of c.name) (datatype_number t c.of) (each (ty_of t) c.fields) number.0 fields.0 number.1 fields.1)

pub con_table_there : (t : Tables) → Numbered t → TypesBased t.names → AllWhole t t.datatypes → (table : ConTable) × (con_table t ≡ Some table)
con_table_there t numbered based whole =
    let r = each_total (ConWhole t) (con_decl t) (con_there t) (cons t) (all_cons t numbered based t.datatypes (λ k h. h) whole) in
    (table_with r.0, map_is table_with (each (con_decl t) (cons t)) r.0 r.1)
