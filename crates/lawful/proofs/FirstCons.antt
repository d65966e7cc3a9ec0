-- Each datatype that a lawful text speaks of has a constructor.
use Rattle.std.proofs.Common.{◌≡◌, ◌+◌, ℕ, zero, suc, Bool, true, false, ◌&&◌, ◌==◌, cond, List, [], ◌∷◌, ◌++◌, map, length, Some, None, refl, ap, subst, sym, ◌∙◌, arith}
use Rattle.std.specs.Prelude.{filter, flat_map, reverse, slice_get, unwrap_or}
use Rattle.std.specs.List.{AllByRecursion}
use Rattle.std.proofs.lemmas.Grind.{flat_map-append, reverse_onto}
use Rattle.std.proofs.lemmas.List.{length-reverse, reverse-reverse}
use Rattle.rp_grammar.specs.Trees.{ConTree, CrdtTree, CrdtForm, FieldTree, FieldTrees, ExprTree, ExprForm, QueryTree, DeclForm, DeclTree}
use Rattle.rp_grammar.specs.Texts.{IsText}
use Rattle.rp_grammar.proofs.Formed.{FormedDecls}
use Rattle.rp_grammar.proofs.FormedTexts.{Lexable, text_formed}
use Rattle.type_rules.specs.declared.kind.Kind.{Kind}
use Rattle.type_rules.specs.declared.kind.Base.{Base}
use Rattle.type_rules.specs.declared.kind.Base.TheVariants as base
use Rattle.type_rules.specs.declared.role.Role.TheVariants as role
use Rattle.type_rules.specs.Names.{Names, TypeEntry, TypeSort, con_fields, types_from}
use Rattle.type_rules.specs.Kinds.{bool_kind, is_open, kind_of, maybe_of, param_kinds, plain_kind}
use Rattle.type_rules.specs.Queries.{names_of}
use Rattle.type_rules.specs.Sites.{Site}
use Rattle.type_rules.specs.Typing.{type_of}
use Rattle.type_rules.specs.Matches.{Case, cases_of, con_case, declared_cases, maybe_cases, sort_cases}
use Rattle.type_rules.specs.ExprSites.{asks, expr_sites}
use Rattle.type_rules.specs.DeclSites.{invariant_sites, param_sites, proc_sites, query_sites, scope_for}
use Rattle.type_rules.specs.TextSites.{Seen, nothing_seen, with_decl, decl_sites}
use Rattle.type_rules.specs.Faults.{IsLawful}
use Rattle.desugaring.specs.Appearances.{base_parts, crdt_kinds, each_once, field_kinds, fields_kinds, form_kinds, is_declared, kinds_from, maybes_of, parts, site_kinds, sort_parts, with_maybes}
use Rattle.desugaring.specs.Tables.{Con, cons_of, tables_of}
use Rattle.lawful.proofs.Behind.{decl_parts}
use Rattle.lawful.proofs.Closed.{AllClosed, AllTypes, IsClosed, TypeClosed, params_closed, written_closed}
use Rattle.lawful.proofs.ClosedStmts.{invariant_types, proc_types, query_types}
use Rattle.lawful.proofs.Maybes.{left_at, right_at}
use Rattle.lawful.proofs.Ordinary.{all_reverse, same_kinds}
use Rattle.lawful.proofs.Places.{Lawfully, all_both, all_lawful, all_parts, types_are}
use Rattle.lawful.proofs.Speaking.{spoken}

-- it has a constructor, the first
abbrev pub HasFirst : Names → Kind → Type 0
HasFirst n k = (z : Con) × (slice_get (cons_of n k) 0 ≡ Some z)

abbrev pub AllFirst : Names → List Kind → Type 0
AllFirst n ks = AllByRecursion (HasFirst n) ks

join : (n : Names) (ks js : List Kind) → AllFirst n ks → AllFirst n js → AllFirst n (ks ++ js)
join n ks js a b = all_both (HasFirst n) ks js a b

-- # `Maybe`

maybe_first : (n : Names) (b : Base) (m : ℕ) → is_open b ≡ false → HasFirst n (record { base = b; maybes = suc m })
maybe_first n b m closed =
    let k : Kind = record { base = b; maybes = suc m } in
    let cases : cases_of n k ≡ Some (maybe_cases (record { base = b; maybes = m })) =
    ap (λ z. cond (z && m == 0) None (Some (maybe_cases (record { base = b; maybes = m })))) closed in
    let cons_are : cons_of n k ≡ map (λ (c : Case). record { name = c.name; of = k; fields = c.fields }) (maybe_cases (record { base = b; maybes = m })) =
    ap (λ o. map (λ (c : Case). record { name = c.name; of = k; fields = c.fields }) (unwrap_or o [])) cases in
    (_, ap (λ xs. slice_get xs 0) cons_are)

maybes_first : (n : Names) (b : Base) (m : ℕ) → is_open b ≡ false → AllFirst n (maybes_of b m)
maybes_first n b zero closed = tt
maybes_first n b (suc m) closed = join n (maybes_of b m) (record { base = b; maybes = suc m } ∷ []) (maybes_first n b m closed) (maybe_first n b m closed, tt)

-- # Declared datatypes

abbrev SortHas : TypeSort → Type 0
SortHas TypeSort.id_type = Unit {0}
SortHas TypeSort.opaque = Unit {0}
SortHas (TypeSort.datatype []) = ⊥
SortHas (TypeSort.datatype (c ∷ cons)) = Unit {0}

abbrev EntryHas : TypeEntry → Type 0
EntryHas e = SortHas e.sort

-- what stands in the list stands at that number of the text's types
abbrev Late : Names → List TypeEntry → Type 0
Late n late = (i : ℕ) (e : TypeEntry) → slice_get (reverse late) i ≡ Some e → slice_get n.types i ≡ Some e

declared_first : (n : Names) (type : ℕ) (entry : TypeEntry) (cons : List ConTree) → slice_get n.types type ≡ Some entry → entry.sort ≡ TypeSort.datatype cons
    → SortHas (TypeSort.datatype cons) → HasFirst n (plain_kind (base.Declared type))
declared_first n type entry [] at sorted has = absurd has
declared_first n type entry (c ∷ cons) at sorted has =
    let k = plain_kind (base.Declared type) in
    let cases : cases_of n k ≡ Some (map (con_case n) (c ∷ cons)) =
    subst (λ o. declared_cases n o ≡ Some (map (con_case n) (c ∷ cons))) (sym at)
    (subst (λ s. sort_cases n s ≡ Some (map (con_case n) (c ∷ cons))) (sym sorted) refl) in
    (_, ap (λ o. slice_get (map (λ (z : Case). record { name = z.name; of = k; fields = z.fields }) (unwrap_or o [])) 0) cases)

fields_closed : (n : Names) (cons : List ConTree) → AllClosed (field_kinds n cons)
fields_closed n [] = tt
fields_closed n (c ∷ cons) = all_both IsClosed (param_kinds n (con_fields c)) (field_kinds n cons) (params_closed n (con_fields c)) (fields_closed n cons)

inner_first : (n : Names) (inner : Base → List Kind) → ((b : Base) → AllFirst n (inner b)) → (ks : List Kind) → AllClosed ks → AllFirst n (flat_map (with_maybes inner) ks)
inner_first n inner told [] all = tt
inner_first n inner told (k ∷ ks) all =
    join n (with_maybes inner k) (flat_map (with_maybes inner) ks)
    (join n (inner k.base) (maybes_of k.base k.maybes) (told k.base) (maybes_first n k.base k.maybes all.0)) (inner_first n inner told ks all.1)

sort_first : (n : Names) (inner : Base → List Kind) → ((b : Base) → AllFirst n (inner b)) → (type : ℕ) (entry : TypeEntry) (sort : TypeSort) → entry.sort ≡ sort
    → slice_get n.types type ≡ Some entry → SortHas sort → AllFirst n (sort_parts n inner type sort)
sort_first n inner told type entry TypeSort.id_type sorted at has = tt
sort_first n inner told type entry TypeSort.opaque sorted at has = tt
sort_first n inner told type entry (TypeSort.datatype cons) sorted at has =
    join n (flat_map (with_maybes inner) (field_kinds n cons)) (plain_kind (base.Declared type) ∷ []) (inner_first n inner told (field_kinds n cons) (fields_closed n cons))
    (declared_first n type entry cons at sorted has, tt)

last_there : (n : Names) (entry : TypeEntry) (before : List TypeEntry) → Late n (entry ∷ before) → slice_get n.types (length before) ≡ Some entry
last_there n entry before late =
    let r = right_at (reverse before) (entry ∷ []) 0 entry refl in
    let place : r.0 ≡ length before = omega (arith, r.1, length-reverse before) in
    late (length before) entry
    (subst (λ xs. slice_get xs (length before) ≡ Some entry) (sym (reverse_onto before entry []))
    (subst (λ i. slice_get (reverse before ++ entry ∷ []) i ≡ Some entry) place r.2))

earlier : (n : Names) (entry : TypeEntry) (before : List TypeEntry) → Late n (entry ∷ before) → Late n before
earlier n entry before late i e at =
    late i e (subst (λ xs. slice_get xs i ≡ Some e) (sym (reverse_onto before entry [])) (left_at (reverse before) (entry ∷ []) i e at))

base_first : (n : Names) (before : List TypeEntry) → Late n before → AllByRecursion EntryHas before → (b : Base) → AllFirst n (base_parts n before b)
base_first n [] late all b = tt
base_first n (entry ∷ before) late all b =
    let rest = base_first n before (earlier n entry before late) all.1 in
    by_test n entry before b (is_declared (length before) b)
    (sort_first n (base_parts n before) rest (length before) entry entry.sort refl (last_there n entry before late) all.0) (rest b) where
      by_test : (n : Names) (entry : TypeEntry) (before : List TypeEntry) (b : Base) (is : Bool) → AllFirst n (sort_parts n (base_parts n before) (length before) entry.sort)
          → AllFirst n (base_parts n before b) → AllFirst n (cond is (sort_parts n (base_parts n before) (length before) entry.sort) (base_parts n before b))
      by_test n entry before b true own others = own
      by_test n entry before b false own others = others

abbrev TypesHave : Names → Type 0
TypesHave n = AllByRecursion EntryHas n.types

parts_first : (n : Names) → TypesHave n → (k : Kind) → IsClosed k → AllFirst n (parts n k)
parts_first n all k closed =
    join n (base_parts n (reverse n.types) k.base) (maybes_of k.base k.maybes)
    (base_first n (reverse n.types) (λ i e at. subst (λ xs. slice_get xs i ≡ Some e) (reverse-reverse n.types) at) (all_reverse EntryHas n.types all) k.base)
    (maybes_first n k.base k.maybes closed)

-- # Where they appear

sites_first : (n : Names) → TypesHave n → (ss : List Site) → AllTypes n ss → AllFirst n (flat_map (site_kinds n) ss)
sites_first n all [] types = tt
sites_first n all (s ∷ ss) types =
    join n (site_kinds n s) (flat_map (site_kinds n) ss) (site_first n all s types.0) (sites_first n all ss types.1) where
      site_first : (n : Names) → TypesHave n → (s : Site) → TypeClosed n s → AllFirst n (site_kinds n s)
      site_first n all (Site.written decl r t) closed = parts_first n all (kind_of n t) (written_closed n t)
      site_first n all (Site.place sc w (ExprTree.node at (ExprForm.some_of e))) closed =
          parts_first n all (type_of n sc.vars w.asked (ExprTree.node at (ExprForm.some_of e))) closed
      site_first n all (Site.place sc w (ExprTree.node at _)) closed = tt
      site_first n all _ closed = tt

mutual
  crdt_first : (n : Names) → TypesHave n → (c : CrdtTree) → AllFirst n (crdt_kinds n c)
  crdt_first n all (CrdtTree.node at form) = crdt_form_first n all form

  crdt_form_first : (n : Names) → TypesHave n → (form : CrdtForm) → AllFirst n (form_kinds n form)
  crdt_form_first n all (CrdtForm.set_aw t) = parts_first n all (kind_of n t) (written_closed n t)
  crdt_form_first n all (CrdtForm.set_rw t) = parts_first n all (kind_of n t) (written_closed n t)
  crdt_form_first n all (CrdtForm.reg t) = parts_first n all (maybe_of (kind_of n t)) (written_closed n t)
  crdt_form_first n all (CrdtForm.mv_reg t) = parts_first n all (kind_of n t) (written_closed n t)
  crdt_form_first n all CrdtForm.counter = tt
  crdt_form_first n all (CrdtForm.map_uw t c) = join n (parts n (kind_of n t)) (crdt_kinds n c) (parts_first n all (kind_of n t) (written_closed n t)) (crdt_first n all c)
  crdt_form_first n all (CrdtForm.map_dw t c) = join n (parts n (kind_of n t)) (crdt_kinds n c) (parts_first n all (kind_of n t) (written_closed n t)) (crdt_first n all c)
  crdt_form_first n all (CrdtForm.struct fields) = crdt_fields_first n all fields

  crdt_fields_first : (n : Names) → TypesHave n → (fields : FieldTrees) → AllFirst n (fields_kinds n fields)
  crdt_fields_first n all FieldTrees.no_fields = tt
  crdt_fields_first n all (FieldTrees.more_fields (FieldTree.field x c) fields) =
      join n (crdt_kinds n c) (fields_kinds n fields) (crdt_first n all c) (crdt_fields_first n all fields)

query_first : (n : Names) → TypesHave n → (k : ℕ) (words : Bool) (q : QueryTree) → AllByRecursion (Lawfully n) (query_sites n k words q)
    → AllFirst n (flat_map (site_kinds n) (query_sites n k true q))
query_first n all k words (QueryTree.query x params result body) laws =
    let whole = query_types n k words (QueryTree.query x params result body) laws in
    let front = param_sites n k role.QueryParam params in
    let sites = expr_sites n (scope_for n k words params) (asks 21 (kind_of n result)) body in
    let there = expr_sites n (scope_for n k true params) (asks 21 (kind_of n result)) body in
    let own = all_parts (TypeClosed n) front (Site.written k role.QueryResult result ∷ sites) whole in
    let same : flat_map (site_kinds n) there ≡ flat_map (site_kinds n) sites =
    sym (ap (flat_map (site_kinds n)) (spoken n (scope_for n k words params) (asks 21 (kind_of n result)) body)) ∙ same_kinds n sites in
    subst (AllFirst n) (sym (flat_map-append (site_kinds n) front (Site.written k role.QueryResult result ∷ there)))
    (join n (flat_map (site_kinds n) front) (flat_map (site_kinds n) (Site.written k role.QueryResult result ∷ there)) (sites_first n all front own.0)
    (join n (site_kinds n (Site.written k role.QueryResult result)) (flat_map (site_kinds n) there) (parts_first n all (kind_of n result) (written_closed n result))
    (subst (AllFirst n) (sym same) (sites_first n all sites own.1.1))))

kinds_first : (n : Names) → TypesHave n → (seen : Seen) (k type : ℕ) (ds : List DeclTree) → AllByRecursion (Lawfully n) (decl_sites n seen k ds)
    → AllFirst n (kinds_from n k type ds)
kinds_first n all seen k type [] laws = tt
kinds_first n all seen k type (DeclTree.node at (DeclForm.id_type x) ∷ ds) laws =
    kinds_first n all (with_decl seen (DeclForm.id_type x)) (k + 1) _ ds (decl_parts (Lawfully n) n seen k at (DeclForm.id_type x) ds laws).1
kinds_first n all seen k type (DeclTree.node at (DeclForm.opaque x) ∷ ds) laws =
    kinds_first n all (with_decl seen (DeclForm.opaque x)) (k + 1) _ ds (decl_parts (Lawfully n) n seen k at (DeclForm.opaque x) ds laws).1
kinds_first n all seen k type (DeclTree.node at (DeclForm.datatype x cs) ∷ ds) laws =
    let p = decl_parts (Lawfully n) n seen k at (DeclForm.datatype x cs) ds laws in
    join n (parts n (plain_kind (base.Declared type))) _ (parts_first n all (plain_kind (base.Declared type)) refl)
    (kinds_first n all (with_decl seen (DeclForm.datatype x cs)) (k + 1) _ ds p.1)
kinds_first n all seen k type (DeclTree.node at (DeclForm.crdt x c) ∷ ds) laws =
    let p = decl_parts (Lawfully n) n seen k at (DeclForm.crdt x c) ds laws in
    join n (crdt_kinds n c) _ (crdt_first n all c) (kinds_first n all (with_decl seen (DeclForm.crdt x c)) (k + 1) _ ds p.1)
kinds_first n all seen k type (DeclTree.node at (DeclForm.query q) ∷ ds) laws =
    let p = decl_parts (Lawfully n) n seen k at (DeclForm.query q) ds laws in
    join n (flat_map (site_kinds n) (query_sites n k true q)) _ (query_first n all k _ q p.0) (kinds_first n all (with_decl seen (DeclForm.query q)) (k + 1) _ ds p.1)
kinds_first n all seen k type (DeclTree.node at (DeclForm.invariant x e) ∷ ds) laws =
    let p = decl_parts (Lawfully n) n seen k at (DeclForm.invariant x e) ds laws in
    join n (flat_map (site_kinds n) (invariant_sites n k e)) _ (sites_first n all (invariant_sites n k e) (invariant_types n k e p.0))
    (kinds_first n all (with_decl seen (DeclForm.invariant x e)) (k + 1) _ ds p.1)
kinds_first n all seen k type (DeclTree.node at (DeclForm.proc q) ∷ ds) laws =
    let p = decl_parts (Lawfully n) n seen k at (DeclForm.proc q) ds laws in
    join n (flat_map (site_kinds n) (proc_sites n k q)) _ (sites_first n all (proc_sites n k q) (proc_types n k q p.0))
    (kinds_first n all (with_decl seen (DeclForm.proc q)) (k + 1) _ ds p.1)

-- # All of them

types_have : (k : ℕ) (ds : List DeclTree) → FormedDecls Lexable ds → AllByRecursion EntryHas (types_from k ds)
types_have k [] h = tt
types_have k (DeclTree.node at (DeclForm.id_type x) ∷ ds) h = (tt, types_have (k + 1) ds h.1)
types_have k (DeclTree.node at (DeclForm.opaque x) ∷ ds) h = (tt, types_have (k + 1) ds h.1)
types_have k (DeclTree.node at (DeclForm.datatype x []) ∷ ds) h = absurd h.0
types_have k (DeclTree.node at (DeclForm.datatype x (c ∷ cs)) ∷ ds) h = (tt, types_have (k + 1) ds h.1)
types_have k (DeclTree.node at (DeclForm.crdt x c) ∷ ds) h = types_have (k + 1) ds h.1
types_have k (DeclTree.node at (DeclForm.query q) ∷ ds) h = types_have (k + 1) ds h.1
types_have k (DeclTree.node at (DeclForm.invariant x e) ∷ ds) h = types_have (k + 1) ds h.1
types_have k (DeclTree.node at (DeclForm.proc q) ∷ ds) h = types_have (k + 1) ds h.1

filter_first : (n : Names) (test : Kind → Bool) (ks : List Kind) → AllFirst n ks → AllFirst n (filter test ks)
filter_first n test [] all = tt
filter_first n test (k ∷ ks) all = by_test n test k ks (test k) all.0 (filter_first n test ks all.1) where
  by_test : (n : Names) (test : Kind → Bool) (k : Kind) (ks : List Kind) (stays : Bool) → HasFirst n k → AllFirst n (filter test ks)
      → AllFirst n (cond stays (k ∷ filter test ks) (filter test ks))
  by_test n test k ks true first rest = (first, rest)
  by_test n test k ks false first rest = rest

once_first : (n : Names) (ks : List Kind) → AllFirst n ks → AllFirst n (each_once ks)
once_first n [] all = tt
once_first n (k ∷ ks) all = (all.0, filter_first n _ (each_once ks) (once_first n ks all.1))

pub datatypes_first : (bytes : List ℕ) (tree : List DeclTree) → IsText bytes tree → IsLawful tree → AllFirst (names_of tree) (tables_of tree).datatypes
datatypes_first bytes tree text lawful =
    let n = names_of tree in
    let have = subst (AllByRecursion EntryHas) (sym (types_are tree)) (types_have 0 tree (text_formed bytes tree text)) in
    once_first n (bool_kind ∷ kinds_from n 0 0 tree) ((_, refl), kinds_first n have nothing_seen 0 0 tree (all_lawful tree lawful))
