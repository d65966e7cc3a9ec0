-- The datatypes that a lawful text speaks of are made of types of data.
use Rattle.std.proofs.Common.{◌≡◌, ◌+◌, ℕ, zero, suc, Bool, true, false, not, ◌&&◌, ◌||◌, cond, List, [], ◌∷◌, ◌++◌, map, length, Option, Some, None, refl, ap, subst, sym, ◌∙◌, arith}
use Rattle.std.specs.Prelude.{filter, flat_map, nat_eq, reverse}
use Rattle.std.specs.List.{AllByRecursion}
use Rattle.std.proofs.lemmas.Bool.{ne_eqb, not-false, or_left, or_parts, true≢false}
use Rattle.std.proofs.lemmas.Grind.{flat_map-append, reverse_onto}
use Rattle.rp_span.specs.declared.Span.{Span}
use Rattle.rp_grammar.specs.Trees.{TypeTree, TypeForm, ParamTree, ConTree, CrdtTree, CrdtForm, FieldTree, FieldTrees, ExprTree, ExprForm, QueryTree, DeclForm, DeclTree}
use Rattle.type_rules.specs.declared.kind.Kind.{Kind}
use Rattle.type_rules.specs.declared.kind.Base.{Base}
use Rattle.type_rules.specs.declared.kind.Base.TheVariants as base
use Rattle.type_rules.specs.declared.role.Role.{Role}
use Rattle.type_rules.specs.declared.role.Role.TheVariants as role
use Rattle.type_rules.specs.Names.{Names, TypeEntry, TypeSort, param_name, param_type, type_number, types_from}
use Rattle.type_rules.specs.Kinds.{bool_kind, maybe_of, plain_kind, form_kind, innermost, innermost_form, is_ordinary_base, kind_of, named_kind, param_kinds}
use Rattle.type_rules.specs.Queries.{names_of}
use Rattle.type_rules.specs.Typing.{type_of}
use Rattle.type_rules.specs.Sites.{Site}
use Rattle.type_rules.specs.ExprSites.{asks, expr_sites}
use Rattle.type_rules.specs.DeclSites.{con_sites, crdt_form_sites, crdt_sites, field_names, fields_sites, invariant_sites, named_all, param_sites, proc_sites, query_sites, scope_for, written_all}
use Rattle.type_rules.specs.TextSites.{Seen, nothing_seen, with_decl, decl_sites}
use Rattle.type_rules.specs.Rules.{is_call_form, is_maybe_form, form_of, rule, rules, rule06, rule07, rule10, stray_word, takes_calls, when}
use Rattle.type_rules.specs.Faults.{IsLawful}
use Rattle.desugaring.specs.Appearances.{base_parts, crdt_kinds, each_once, field_kinds, fields_kinds, form_kinds, is_declared, kinds_from, maybes_of, parts, site_kinds, sort_parts, with_maybes}
use Rattle.desugaring.specs.Tables.{cons, tables_of}
use Rattle.lawful.proofs.Basics.{when_not}
use Rattle.lawful.proofs.Behind.{decl_parts}
use Rattle.lawful.proofs.Places.{Lawfully, all_both, all_lawful, all_parts, is_one_of, types_are}
use Rattle.lawful.proofs.Speaking.{speaking, spoken}

-- a type of data, as far as its base tells
abbrev pub IsData : Kind → Type 0
IsData k = is_ordinary_base k.base ≡ true

abbrev pub AllData : List Kind → Type 0
AllData ks = AllByRecursion IsData ks

join : (ks js : List Kind) → AllData ks → AllData js → AllData (ks ++ js)
join ks js a b = all_both IsData ks js a b

-- # Parts of types

abbrev SortData : Names → TypeSort → Type 0
SortData n (TypeSort.datatype cons) = AllData (field_kinds n cons)
SortData n TypeSort.id_type = Unit {0}
SortData n TypeSort.opaque = Unit {0}

-- the fields of a declared type are of types of data
abbrev pub EntryData : Names → TypeEntry → Type 0
EntryData n e = SortData n e.sort

maybes_data : (b : Base) (m : ℕ) → is_ordinary_base b ≡ true → AllData (maybes_of b m)
maybes_data b zero h = tt
maybes_data b (suc m) h = join (maybes_of b m) (record { base = b; maybes = suc m } ∷ []) (maybes_data b m h) (h, tt)

inner_data : (inner : Base → List Kind) → ((b : Base) → AllData (inner b)) → (ks : List Kind) → AllData ks → AllData (flat_map (with_maybes inner) ks)
inner_data inner told [] all = tt
inner_data inner told (k ∷ ks) all =
    join (with_maybes inner k) (flat_map (with_maybes inner) ks) (join (inner k.base) (maybes_of k.base k.maybes) (told k.base) (maybes_data k.base k.maybes all.0))
    (inner_data inner told ks all.1)

sort_data : (n : Names) (inner : Base → List Kind) → ((b : Base) → AllData (inner b)) → (type : ℕ) (sort : TypeSort) → SortData n sort → AllData (sort_parts n inner type sort)
sort_data n inner told type TypeSort.id_type h = tt
sort_data n inner told type TypeSort.opaque h = tt
sort_data n inner told type (TypeSort.datatype cons) h =
    join (flat_map (with_maybes inner) (field_kinds n cons)) (_ ∷ []) (inner_data inner told (field_kinds n cons) h) (refl, tt)

base_data : (n : Names) (before : List TypeEntry) → AllByRecursion (EntryData n) before → (b : Base) → AllData (base_parts n before b)
base_data n [] all b = tt
base_data n (entry ∷ before) all b =
    by_test n entry before b (is_declared (length before) b) (sort_data n (base_parts n before) (base_data n before all.1) (length before) entry.sort all.0)
    (base_data n before all.1 b) where
      by_test : (n : Names) (entry : TypeEntry) (before : List TypeEntry) (b : Base) (is : Bool) → AllData (sort_parts n (base_parts n before) (length before) entry.sort)
          → AllData (base_parts n before b) → AllData (cond is (sort_parts n (base_parts n before) (length before) entry.sort) (base_parts n before b))
      by_test n entry before b true own others = own
      by_test n entry before b false own others = others

pub all_reverse : {X : Type 0} (P : X → Type 0) (xs : List X) → AllByRecursion P xs → AllByRecursion P (reverse xs)
all_reverse P [] all = tt
all_reverse P (x ∷ xs) all =
    subst (AllByRecursion P) (sym (reverse_onto xs x [])) (all_both P (reverse xs) (x ∷ []) (all_reverse P xs all.1) (all.0, tt))

-- a type of data, or one that is no `Maybe`
abbrev MayStand : Kind → Type 0
MayStand k = (is_ordinary_base k.base || nat_eq k.maybes 0) ≡ true

-- all declared types have fields of data
abbrev pub TypesData : Names → Type 0
TypesData n = AllByRecursion (EntryData n) n.types

parts_data : (n : Names) → TypesData n → (k : Kind) → MayStand k → AllData (parts n k)
parts_data n all k may =
    join (base_parts n (reverse n.types) k.base) (maybes_of k.base k.maybes) (base_data n (reverse n.types) (all_reverse (EntryData n) n.types all) k.base)
    (by_maybes k.base k.maybes may) where
      by_maybes : (b : Base) (m : ℕ) → (is_ordinary_base b || nat_eq m 0) ≡ true → AllData (maybes_of b m)
      by_maybes b zero may = tt
      by_maybes b (suc m) may = maybes_data b (suc m) (no_zero (is_ordinary_base b) (nat_eq (suc m) 0) (ne_eqb (suc m) 0 (omega arith)) may) where
        no_zero : (a z : Bool) → z ≡ false → (a || z) ≡ true → a ≡ true
        no_zero true z none may = refl
        no_zero false z none may = absurd (true≢false (sym may ∙ none))

-- # Where they appear

-- no `call` stands inside of a `Maybe`
named_data : (o : Option ℕ) → is_ordinary_base (named_kind o).base ≡ true
named_data None = refl
named_data (Some type) = refl

mutual
  inside_data : (n : Names) (t : TypeTree) → is_call_form (form_of (innermost t)) ≡ false → IsData (kind_of n t)
  inside_data n (TypeTree.node at form) e = form_data n at form e

  form_data : (n : Names) (at : Span) (form : TypeForm) → is_call_form (form_of (innermost_form at form)) ≡ false
      → is_ordinary_base (form_kind n form).base ≡ true
  form_data n at (TypeForm.named x) e = named_data (type_number n x)
  form_data n at TypeForm.bool e = refl
  form_data n at TypeForm.int e = refl
  form_data n at TypeForm.text e = refl
  form_data n at (TypeForm.maybe t) e = inside_data n t e
  form_data n at TypeForm.call e = absurd cc
  form_data n at TypeForm.invocation e = absurd cc

no_call : (takes : Bool) (t : TypeTree) → stray_word (takes && false) t ≡ None → is_call_form (form_of t) ≡ false
no_call takes (TypeTree.node at form) e = by_takes takes (is_call_form form) at e where
  by_takes : (takes call : Bool) (at : Span) → when (call && not (takes && false)) at ≡ None → call ≡ false
  by_takes takes false at e = refl
  by_takes true true at e = absurd cc
  by_takes false true at e = absurd cc

-- a written type is of data, or stands alone
written_may : (n : Names) (k : ℕ) (r : Role) (t : TypeTree) → Lawfully n (Site.written k r t) → MayStand (kind_of n t)
written_may n k r (TypeTree.node at form) law = by_form n k r at form (law (rule 6 rule06) (is_one_of rules 5 _ refl)) where
  by_form : (n : Names) (k : ℕ) (r : Role) (at : Span) (form : TypeForm)
      → stray_word (takes_calls r && not (is_maybe_form form)) (innermost_form at form) ≡ None → MayStand (form_kind n form)
  by_form n k r at (TypeForm.maybe t) e =
      or_left _ _ (inside_data n t (no_call (takes_calls r) (innermost t) e))
  by_form n k r at (TypeForm.named x) e = or_left _ _ (named_data (type_number n x))
  by_form n k r at TypeForm.bool e = refl
  by_form n k r at TypeForm.int e = refl
  by_form n k r at TypeForm.text e = refl
  by_form n k r at TypeForm.call e = refl
  by_form n k r at TypeForm.invocation e = refl

field_data : (n : Names) (k : ℕ) (t : TypeTree) → Lawfully n (Site.written k role.Field t) → IsData (kind_of n t)
field_data n k t law = not-false _ (when_not _ _ (law (rule 7 rule07) (is_one_of rules 6 _ refl)))

site_data : (n : Names) → TypesData n → (s : Site) → Lawfully n s → AllData (site_kinds n s)
site_data n all (Site.written decl r t) law = parts_data n all (kind_of n t) (written_may n decl r t law)
site_data n all (Site.place sc w (ExprTree.node at (ExprForm.some_of e))) law =
    let whole = ExprTree.node at (ExprForm.some_of e) in
    let parts = or_parts _ _ (when_not _ _ (law (rule 10 rule10) (is_one_of rules 9 _ refl))) in
    parts_data n all (type_of n sc.vars w.asked whole) (or_left _ _ (not-false _ parts.1))
site_data n all (Site.place sc w (ExprTree.node at _)) law = tt
site_data n all _ law = tt

sites_data : (n : Names) → TypesData n → (ss : List Site) → AllByRecursion (Lawfully n) ss → AllData (flat_map (site_kinds n) ss)
sites_data n all [] laws = tt
sites_data n all (s ∷ ss) laws = join (site_kinds n s) (flat_map (site_kinds n) ss) (site_data n all s laws.0) (sites_data n all ss laws.1)

mutual
  crdt_data : (n : Names) → TypesData n → (k : ℕ) (c : CrdtTree) → AllByRecursion (Lawfully n) (crdt_sites k c) → AllData (crdt_kinds n c)
  crdt_data n all k (CrdtTree.node at form) laws = crdt_form_data n all k form laws

  crdt_form_data : (n : Names) → TypesData n → (k : ℕ) (form : CrdtForm) → AllByRecursion (Lawfully n) (crdt_form_sites k form) → AllData (form_kinds n form)
  crdt_form_data n all k (CrdtForm.set_aw t) laws = parts_data n all (kind_of n t) (or_left _ _ (field_data n k t laws.0))
  crdt_form_data n all k (CrdtForm.set_rw t) laws = parts_data n all (kind_of n t) (or_left _ _ (field_data n k t laws.0))
  crdt_form_data n all k (CrdtForm.reg t) laws = parts_data n all (maybe_of (kind_of n t)) (or_left _ _ (field_data n k t laws.0))
  crdt_form_data n all k (CrdtForm.mv_reg t) laws = parts_data n all (kind_of n t) (or_left _ _ (field_data n k t laws.0))
  crdt_form_data n all k CrdtForm.counter laws = tt
  crdt_form_data n all k (CrdtForm.map_uw t c) laws =
      join (parts n (kind_of n t)) (crdt_kinds n c) (parts_data n all (kind_of n t) (or_left _ _ (field_data n k t laws.0))) (crdt_data n all k c laws.1)
  crdt_form_data n all k (CrdtForm.map_dw t c) laws =
      join (parts n (kind_of n t)) (crdt_kinds n c) (parts_data n all (kind_of n t) (or_left _ _ (field_data n k t laws.0))) (crdt_data n all k c laws.1)
  crdt_form_data n all k (CrdtForm.struct fields) laws =
      crdt_fields_data n all k fields (all_parts (Lawfully n) (named_all [] (field_names fields)) (fields_sites k fields) laws).1

  crdt_fields_data : (n : Names) → TypesData n → (k : ℕ) (fields : FieldTrees) → AllByRecursion (Lawfully n) (fields_sites k fields) → AllData (fields_kinds n fields)
  crdt_fields_data n all k FieldTrees.no_fields laws = tt
  crdt_fields_data n all k (FieldTrees.more_fields (FieldTree.field x c) fields) laws =
      let own = all_parts (Lawfully n) (crdt_sites k c) (fields_sites k fields) laws in
      join (crdt_kinds n c) (fields_kinds n fields) (crdt_data n all k c own.0) (crdt_fields_data n all k fields own.1)

-- the datatypes of a place don't hang on whether calls may be spoken of there
pub same_kinds : (n : Names) (ss : List Site) → flat_map (site_kinds n) (map speaking ss) ≡ flat_map (site_kinds n) ss
same_kinds n [] = refl
same_kinds n (s ∷ ss) = ap (λ z. z ++ flat_map (site_kinds n) (map speaking ss)) (one_same n s) ∙ ap (λ z. site_kinds n s ++ z) (same_kinds n ss) where
  one_same : (n : Names) (s : Site) → site_kinds n (speaking s) ≡ site_kinds n s
  one_same n (Site.place sc w (ExprTree.node at form)) = refl
  one_same n _ = refl

query_data : (n : Names) → TypesData n → (k : ℕ) (words : Bool) (q : QueryTree) → AllByRecursion (Lawfully n) (query_sites n k words q)
    → AllData (flat_map (site_kinds n) (query_sites n k true q))
query_data n all k words (QueryTree.query x params result body) laws =
    let front = param_sites n k role.QueryParam params in
    let own = all_parts (Lawfully n) front _ laws in
    let sites = expr_sites n (scope_for n k words params) (asks 21 (kind_of n result)) body in
    let there = expr_sites n (scope_for n k true params) (asks 21 (kind_of n result)) body in
    let same : flat_map (site_kinds n) there ≡ flat_map (site_kinds n) sites =
    sym (ap (flat_map (site_kinds n)) (spoken n (scope_for n k words params) (asks 21 (kind_of n result)) body)) ∙ same_kinds n sites in
    subst AllData (sym (flat_map-append (site_kinds n) front (Site.written k role.QueryResult result ∷ there)))
    (join (flat_map (site_kinds n) front) (flat_map (site_kinds n) (Site.written k role.QueryResult result ∷ there)) (sites_data n all front own.0)
    (join (site_kinds n (Site.written k role.QueryResult result)) (flat_map (site_kinds n) there) (site_data n all (Site.written k role.QueryResult result) own.1.0)
    (subst AllData (sym same) (sites_data n all sites own.1.1))))

-- the datatypes that declarations speak of
kinds_data : (n : Names) → TypesData n → (seen : Seen) (k type : ℕ) (ds : List DeclTree) → AllByRecursion (Lawfully n) (decl_sites n seen k ds)
    → AllData (kinds_from n k type ds)
kinds_data n all seen k type [] laws = tt
kinds_data n all seen k type (DeclTree.node at (DeclForm.id_type x) ∷ ds) laws =
    kinds_data n all (with_decl seen (DeclForm.id_type x)) (k + 1) _ ds (decl_parts (Lawfully n) n seen k at (DeclForm.id_type x) ds laws).1
kinds_data n all seen k type (DeclTree.node at (DeclForm.opaque x) ∷ ds) laws =
    kinds_data n all (with_decl seen (DeclForm.opaque x)) (k + 1) _ ds (decl_parts (Lawfully n) n seen k at (DeclForm.opaque x) ds laws).1
kinds_data n all seen k type (DeclTree.node at (DeclForm.datatype x cons) ∷ ds) laws =
    let p = decl_parts (Lawfully n) n seen k at (DeclForm.datatype x cons) ds laws in
    join (parts n (plain_kind (base.Declared type))) _ (parts_data n all (plain_kind (base.Declared type)) refl) (kinds_data n all (with_decl seen (DeclForm.datatype x cons)) (k + 1) _ ds p.1)
kinds_data n all seen k type (DeclTree.node at (DeclForm.crdt x c) ∷ ds) laws =
    let p = decl_parts (Lawfully n) n seen k at (DeclForm.crdt x c) ds laws in
    join (crdt_kinds n c) _ (crdt_data n all k c p.0) (kinds_data n all (with_decl seen (DeclForm.crdt x c)) (k + 1) _ ds p.1)
kinds_data n all seen k type (DeclTree.node at (DeclForm.query q) ∷ ds) laws =
    let p = decl_parts (Lawfully n) n seen k at (DeclForm.query q) ds laws in
    join (flat_map (site_kinds n) (query_sites n k true q)) _ (query_data n all k _ q p.0) (kinds_data n all (with_decl seen (DeclForm.query q)) (k + 1) _ ds p.1)
kinds_data n all seen k type (DeclTree.node at (DeclForm.invariant x e) ∷ ds) laws =
    let p = decl_parts (Lawfully n) n seen k at (DeclForm.invariant x e) ds laws in
    join (flat_map (site_kinds n) (invariant_sites n k e)) _ (sites_data n all (invariant_sites n k e) p.0) (kinds_data n all (with_decl seen (DeclForm.invariant x e)) (k + 1) _ ds p.1)
kinds_data n all seen k type (DeclTree.node at (DeclForm.proc q) ∷ ds) laws =
    let p = decl_parts (Lawfully n) n seen k at (DeclForm.proc q) ds laws in
    join (flat_map (site_kinds n) (proc_sites n k q)) _ (sites_data n all (proc_sites n k q) p.0) (kinds_data n all (with_decl seen (DeclForm.proc q)) (k + 1) _ ds p.1)

-- # Declared types

written_data : (n : Names) (k : ℕ) (fields : List ParamTree) → AllByRecursion (Lawfully n) (written_all k role.Field fields) → AllData (param_kinds n fields)
written_data n k [] laws = tt
written_data n k (q ∷ fields) laws = (field_data n k (param_type q) laws.0, written_data n k fields laws.1)

cons_data : (n : Names) (k : ℕ) (cons : List ConTree) → AllByRecursion (Lawfully n) (con_sites k cons) → AllData (field_kinds n cons)
cons_data n k [] laws = tt
cons_data n k (ConTree.con x fields ∷ cons) laws =
    let own = all_parts (Lawfully n) (named_all [] (map param_name fields) ++ written_all k role.Field fields) (con_sites k cons) laws in
    let inner = all_parts (Lawfully n) (named_all [] (map param_name fields)) (written_all k role.Field fields) own.0 in
    join (param_kinds n fields) (field_kinds n cons) (written_data n k fields inner.1) (cons_data n k cons own.1)

types_data : (n : Names) (seen : Seen) (k : ℕ) (ds : List DeclTree) → AllByRecursion (Lawfully n) (decl_sites n seen k ds)
    → AllByRecursion (EntryData n) (types_from k ds)
types_data n seen k [] laws = tt
types_data n seen k (DeclTree.node at (DeclForm.id_type x) ∷ ds) laws =
    (tt, types_data n (with_decl seen (DeclForm.id_type x)) (k + 1) ds (decl_parts (Lawfully n) n seen k at (DeclForm.id_type x) ds laws).1)
types_data n seen k (DeclTree.node at (DeclForm.opaque x) ∷ ds) laws =
    (tt, types_data n (with_decl seen (DeclForm.opaque x)) (k + 1) ds (decl_parts (Lawfully n) n seen k at (DeclForm.opaque x) ds laws).1)
types_data n seen k (DeclTree.node at (DeclForm.datatype x cons) ∷ ds) laws =
    let p = decl_parts (Lawfully n) n seen k at (DeclForm.datatype x cons) ds laws in (cons_data n k cons p.0, types_data n (with_decl seen (DeclForm.datatype x cons)) (k + 1) ds p.1)
types_data n seen k (DeclTree.node at (DeclForm.crdt x c) ∷ ds) laws =
    types_data n (with_decl seen (DeclForm.crdt x c)) (k + 1) ds (decl_parts (Lawfully n) n seen k at (DeclForm.crdt x c) ds laws).1
types_data n seen k (DeclTree.node at (DeclForm.query q) ∷ ds) laws =
    types_data n (with_decl seen (DeclForm.query q)) (k + 1) ds (decl_parts (Lawfully n) n seen k at (DeclForm.query q) ds laws).1
types_data n seen k (DeclTree.node at (DeclForm.invariant x e) ∷ ds) laws =
    types_data n (with_decl seen (DeclForm.invariant x e)) (k + 1) ds (decl_parts (Lawfully n) n seen k at (DeclForm.invariant x e) ds laws).1
types_data n seen k (DeclTree.node at (DeclForm.proc q) ∷ ds) laws =
    types_data n (with_decl seen (DeclForm.proc q)) (k + 1) ds (decl_parts (Lawfully n) n seen k at (DeclForm.proc q) ds laws).1

pub declared_data : (tree : List DeclTree) → IsLawful tree → TypesData (names_of tree)
declared_data tree lawful =
    let n = names_of tree in
    subst (AllByRecursion (EntryData n)) (sym (types_are tree)) (types_data n nothing_seen 0 tree (all_lawful tree lawful))

filter_data : (test : Kind → Bool) (ks : List Kind) → AllData ks → AllData (filter test ks)
filter_data test [] all = tt
filter_data test (k ∷ ks) all = by_test test k ks (test k) all.0 (filter_data test ks all.1) where
  by_test : (test : Kind → Bool) (k : Kind) (ks : List Kind) (stays : Bool) → IsData k → AllData (filter test ks) → AllData (cond stays (k ∷ filter test ks) (filter test ks))
  by_test test k ks true first rest = (first, rest)
  by_test test k ks false first rest = rest

once_data : (ks : List Kind) → AllData ks → AllData (each_once ks)
once_data [] all = tt
once_data (k ∷ ks) all = (all.0, filter_data _ (each_once ks) (once_data ks all.1))

pub datatypes_data : (tree : List DeclTree) → IsLawful tree → AllData (tables_of tree).datatypes
datatypes_data tree lawful =
    let n = names_of tree in
    once_data (bool_kind ∷ kinds_from n 0 0 tree) (refl, kinds_data n (declared_data tree lawful) nothing_seen 0 0 tree (all_lawful tree lawful))
