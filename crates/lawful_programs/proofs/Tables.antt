-- The roots, operations and queries of a lawful text's program are there.
use Rattle.std.proofs.Common.{◌≡◌, List, [], ◌∷◌, ◌++◌, Option, Some, None, refl, subst, sym, arith}
use Rattle.std.specs.Prelude.{filter_map}
use Rattle.std.specs.List.{AllByRecursion, cons_option}
use Rattle.rp_value.specs.declared.tables.Ty.{Ty}
use Rattle.rp_grammar.specs.Trees.{CrdtTree, CrdtForm, FieldTree, FieldTrees, DeclTree}
use Rattle.rp_lang.specs.declared.op.OpDecl.{OpDecl}
use Rattle.rp_lang.specs.declared.op.PathStep.{PathStep}
use Rattle.rp_lang.specs.declared.op.PathStep.TheVariants as step
use Rattle.rp_lang.specs.declared.query.QueryDecl.{QueryDecl}
use Rattle.rp_lang.specs.Crdts.{Cr, SetAw, SetRw, Reg, MvReg, Counter, MapUw, MapDw, Struct, CrFields, no_field, also_field}
use Rattle.rp_lang.specs.FirstForm.{tx}
use Rattle.rp_lang.specs.Programs.{Rt}
use Rattle.type_rules.specs.declared.kind.Kind.{Kind}
use Rattle.type_rules.specs.Names.{Entry, text_of}
use Rattle.type_rules.specs.Kinds.{kind_of}
use Rattle.type_rules.specs.Paths.{Member, form_of, members_of}
use Rattle.type_rules.specs.Queries.{names_of}
use Rattle.type_rules.specs.Faults.{IsLawful}
use Rattle.desugaring.specs.Parts.{each}
use Rattle.desugaring.specs.Objects.{KindStep, OwnOp, OwnQuery, PathOp, PathQuery, Root, field, key, keys_on, op_kind, ops_at, own_op, own_ops, own_query, own_queries, queries_at, query_kind, root_in}
use Rattle.desugaring.specs.Tables.{Tables, cr_of, fields_cr, form_cr, op_decl, op_table, op_with, query_decl, query_table, query_with, root_of, root_table, root_with, step_of, tables_of, ty_of}
use Rattle.desugaring.proofs.Options.{both_is, map_is, map_there, three_is}
use Rattle.lawful.proofs.Distinct.{at_place}
use Rattle.lawful.proofs.Places.{all_both}
use Rattle.lawful.proofs.RootCalled.{root_of_entry}
use Rattle.lawful.proofs.RootCalls.{IsOpOf, IsQueryOf, OnRoot, on_roots, ops_made, queries_made}
use Rattle.lawful_programs.specs.Valued.{IsWhole, AllWhole}
use Rattle.lawful_programs.proofs.Wholes.{truth_whole, whole_known}
use Rattle.lawful_programs.proofs.Bases.{text_numbered}
use Rattle.lawful_programs.proofs.Crdts.{CrdtWhole, FieldsWhole, FormWhole, MemberWhole, members_whole, reach_whole}
use Rattle.lawful_programs.proofs.Invariants.{each_total}
use Rattle.lawful_programs.proofs.Roots.{at_member, form_whole}
use Rattle.lawful_programs.proofs.Texts.{EntryWhole, DeclaredWhole, entries_whole}

-- # Types

pub tys_there : (t : Tables) (ks : List Kind) → AllWhole t ks → (tys : List Ty) × (each (ty_of t) ks ≡ Some tys)
tys_there t ks whole = each_total (IsWhole t) (ty_of t) (λ k h. whole_known t k h) ks whole

step_there : (t : Tables) (path : List KindStep) → AllWhole t (keys_on path) → (steps : List PathStep) × (each (step_of t) path ≡ Some steps)
step_there t [] whole = ([], refl)
step_there t (field k ∷ path) whole =
    let r = step_there t path whole in (step.Field k ∷ r.0, both_is ◌∷◌ (step_of t (field k)) (each (step_of t) path) (step.Field k) r.0 refl r.1)
step_there t (key k ∷ path) whole =
    let of = whole_known t k whole.0 in
    let r = step_there t path whole.1 in
    (step.Key of.0 ∷ r.0, both_is ◌∷◌ (step_of t (key k)) (each (step_of t) path) (step.Key of.0) r.0 (map_is step.Key (ty_of t k) of.0 of.1) r.1)

-- # Roots

mutual
  cr_there : (t : Tables) (c : CrdtTree) → CrdtWhole t c → (cr : Cr) × (cr_of t c ≡ Some cr)
  cr_there t (CrdtTree.node at form) whole = form_there t form whole

  form_there : (t : Tables) (form : CrdtForm) → FormWhole t form → (cr : Cr) × (form_cr t form ≡ Some cr)
  form_there t (CrdtForm.set_aw e) whole = let of = whole_known t _ whole in (SetAw of.0, map_is SetAw _ of.0 of.1)
  form_there t (CrdtForm.set_rw e) whole = let of = whole_known t _ whole in (SetRw of.0, map_is SetRw _ of.0 of.1)
  form_there t (CrdtForm.reg e) whole =
      let inner : IsWhole t (kind_of t.names e) = λ m less. whole m (omega (arith, less)) in
      let of = whole_known t (kind_of t.names e) inner in (Reg of.0, map_is Reg _ of.0 of.1)
  form_there t (CrdtForm.mv_reg e) whole = let of = whole_known t _ whole in (MvReg of.0, map_is MvReg _ of.0 of.1)
  form_there t CrdtForm.counter whole = (Counter, refl)
  form_there t (CrdtForm.map_uw k c) whole =
      let of = whole_known t _ whole.0 in let r = cr_there t c whole.1 in (MapUw of.0 r.0, both_is MapUw _ _ of.0 r.0 of.1 r.1)
  form_there t (CrdtForm.map_dw k c) whole =
      let of = whole_known t _ whole.0 in let r = cr_there t c whole.1 in (MapDw of.0 r.0, both_is MapDw _ _ of.0 r.0 of.1 r.1)
  form_there t (CrdtForm.struct parts) whole = let r = fields_there t parts whole in (Struct r.0, map_is Struct _ r.0 r.1)

  fields_there : (t : Tables) (parts : FieldTrees) → FieldsWhole t parts → (crs : CrFields) × (fields_cr t parts ≡ Some crs)
  fields_there t FieldTrees.no_fields whole = (no_field, refl)
  fields_there t (FieldTrees.more_fields (FieldTree.field x c) others) whole =
      let first = cr_there t c whole.0 in
      let rest = fields_there t others whole.1 in
      (also_field (text_of x) first.0 rest.0, both_is (also_field (text_of x)) _ _ first.0 rest.0 first.1 rest.1)

abbrev RootWhole : Tables → Root → Type 0
RootWhole t root = CrdtWhole t root.crdt

all_roots : (t : Tables) (es : List Entry) → AllByRecursion (EntryWhole t) es → AllByRecursion (RootWhole t) (filter_map (λ (e : Entry). root_in e.name e.what) es)
all_roots t [] all = tt
all_roots t (e ∷ es) all = by_root t e es (root_in e.name e.what) refl all.0 (all_roots t es all.1) where
  by_root : (t : Tables) (e : Entry) (es : List Entry) (o : Option Root) → root_in e.name e.what ≡ o → EntryWhole t e
      → AllByRecursion (RootWhole t) (filter_map (λ (z : Entry). root_in z.name z.what) es)
      → AllByRecursion (RootWhole t) (cons_option o (filter_map (λ (z : Entry). root_in z.name z.what) es))
  by_root t e es None is whole rest = rest
  by_root t e es (Some root) is whole rest = (subst (DeclaredWhole t) (root_of_entry e.name e.what root is).0 whole, rest)

pub roots_are_whole : (tree : List DeclTree) → IsLawful tree → AllByRecursion (RootWhole (tables_of tree)) (tables_of tree).roots
roots_are_whole tree lawful = all_roots (tables_of tree) (names_of tree).entries (entries_whole tree lawful)

pub roots_there : (tree : List DeclTree) → IsLawful tree → (roots : List Rt) × (root_table (tables_of tree) ≡ Some roots)
roots_there tree lawful =
    let t = tables_of tree in
    each_total (RootWhole t) (root_of t) (λ root whole. let r = cr_there t root.crdt whole in (root_with root.name r.0, map_is (root_with root.name) _ r.0 r.1))
    t.roots (roots_are_whole tree lawful)

-- # Operations and queries

parts_all : {X Y : Type 0} (P : X → Type 0) (Q : Y → Type 0) (h : X → Option Y) → ((x : X) (y : Y) → h x ≡ Some y → P x → Q y) → (xs : List X)
    → AllByRecursion P xs → AllByRecursion Q (filter_map h xs)
parts_all P Q h f [] all = tt
parts_all {X} {Y} P Q h f (x ∷ xs) all = by_part Q (h x) (filter_map h xs) (λ y e. f x y e all.0) (parts_all P Q h f xs all.1) where
  by_part : {Y : Type 0} (Q : Y → Type 0) (o : Option Y) (ys : List Y) → ((y : Y) → o ≡ Some y → Q y) → AllByRecursion Q ys → AllByRecursion Q (cons_option o ys)
  by_part Q None ys here rest = rest
  by_part Q (Some y) ys here rest = (here y refl, rest)

abbrev OwnOpWhole : Tables → OwnOp → Type 0
OwnOpWhole t o = AllWhole t o.args

own_op_whole : (t : Tables) (m : Member) (o : OwnOp) → own_op m ≡ Some o → MemberWhole t m → OwnOpWhole t o
own_op_whole t m o e whole = map_there (OwnOpWhole t) (λ kind. record { name = m.name; kind = kind; args = m.args }) (op_kind m.does) o e (λ k h. whole.args)

record OwnQueryWhole (t : Tables) (q : OwnQuery) : Type 0 where
  args : AllWhole t q.args
  result : IsWhole t q.result

own_query_whole : (t : Tables) (m : Member) (q : OwnQuery) → own_query m ≡ Some q → MemberWhole t m → OwnQueryWhole t q
own_query_whole t m q e whole =
    map_there (OwnQueryWhole t) (λ kind. record { name = m.name; kind = kind; args = m.args; result = m.result }) (query_kind m.does) q e
    (λ k h. record { args = whole.args; result = whole.result })

op_there : (tree : List DeclTree) → IsLawful tree → (o : PathOp) → OnRoot (names_of tree) (IsOpOf (names_of tree)) 0 (tables_of tree).roots o
    → (d : OpDecl) × (op_decl (tables_of tree) o ≡ Some d)
op_there tree lawful o on =
    let t = tables_of tree in
    let n = names_of tree in
    let root = at_place (RootWhole t) t.roots on.0 on.1 (roots_are_whole tree lawful) on.2 in
    let at = on.3 in
    let whole = reach_whole t on.1.crdt at.0 at.1 at.2 root in
    let members = members_whole t (truth_whole t (text_numbered tree).bool) (form_of at.1) (form_whole t at.1 whole.1) in
    let own = at_member (OwnOpWhole t) (own_ops n (form_of at.1)) o.own
    (parts_all (MemberWhole t) (OwnOpWhole t) own_op (own_op_whole t) (members_of n (form_of at.1)) members) at.3.own_is in
    let keys = subst (λ p. AllWhole t (keys_on p)) (sym at.3.path_is) whole.0 in
    let path = step_there t o.path keys in
    let args = tys_there t (keys_on o.path ++ o.own.args) (all_both (IsWhole t) (keys_on o.path) o.own.args keys own) in
    (op_with o path.0 args.0, both_is (op_with o) _ _ path.0 args.0 path.1 args.1)

pub ops_there : (tree : List DeclTree) → IsLawful tree → (ops : List OpDecl) × (op_table (tables_of tree) ≡ Some ops)
ops_there tree lawful =
    let t = tables_of tree in
    let n = names_of tree in
    let r = each_total (OnRoot n (IsOpOf n) 0 t.roots) (op_decl t) (op_there tree lawful) t.ops (on_roots n (ops_at n) (IsOpOf n) (ops_made n) 0 t.roots) in
    (tx ∷ r.0, map_is (λ ops. tx ∷ ops) _ r.0 r.1)

query_there : (tree : List DeclTree) → IsLawful tree → (q : PathQuery) → OnRoot (names_of tree) (IsQueryOf (names_of tree)) 0 (tables_of tree).roots q
    → (d : QueryDecl) × (query_decl (tables_of tree) q ≡ Some d)
query_there tree lawful q on =
    let t = tables_of tree in
    let n = names_of tree in
    let root = at_place (RootWhole t) t.roots on.0 on.1 (roots_are_whole tree lawful) on.2 in
    let at = on.3 in
    let whole = reach_whole t on.1.crdt at.0 at.1 at.2 root in
    let members = members_whole t (truth_whole t (text_numbered tree).bool) (form_of at.1) (form_whole t at.1 whole.1) in
    let own = at_member (OwnQueryWhole t) (own_queries n (form_of at.1)) q.own
    (parts_all (MemberWhole t) (OwnQueryWhole t) own_query (own_query_whole t) (members_of n (form_of at.1)) members) at.3.own_is in
    let keys = subst (λ p. AllWhole t (keys_on p)) (sym at.3.path_is) whole.0 in
    let path = step_there t q.path keys in
    let args = tys_there t (keys_on q.path ++ q.own.args) (all_both (IsWhole t) (keys_on q.path) q.own.args keys own.args) in
    let result = whole_known t q.own.result own.result in
    (query_with q path.0 args.0 result.0, three_is (query_with q) _ _ _ path.0 args.0 result.0 path.1 args.1 result.1)

pub queries_there : (tree : List DeclTree) → IsLawful tree → (queries : List QueryDecl) × (query_table (tables_of tree) ≡ Some queries)
queries_there tree lawful =
    let t = tables_of tree in
    let n = names_of tree in
    each_total (OnRoot n (IsQueryOf n) 0 t.roots) (query_decl t) (query_there tree lawful) t.queries (on_roots n (queries_at n) (IsQueryOf n) (queries_made n) 0 t.roots)
