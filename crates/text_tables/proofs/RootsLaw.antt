-- Replicated types of a program, field by field, and what stands on all roots.
use Rattle.std.proofs.Common.{◌≡◌, ℕ, suc, ◌+◌, List, [], ◌∷◌, ◌++◌, length, map, Option, Some, None, refl, sym, ap, ap₂, subst, ◌∙◌, arith}
use Rattle.std.specs.List.{filter_map}
use Rattle.std.specs.Option.{option_map}
use Rattle.std.proofs.lemmas.List.{append-nil, append_assoc, map-append}
use Rattle.std.proofs.lemmas.List.Elements.{filter_map-append}
use Rattle.rp_span.specs.declared.Span.{Span}
use Rattle.rp_value.specs.declared.tables.Ty.{Ty}
use Rattle.rp_grammar.specs.Trees.{CrdtForm, CrdtTree, DeclTree, FieldTree, FieldTrees, Ident}
use Rattle.rp_lang.specs.Crdts.{Cr, CrFields, also_field, no_field}
use Rattle.rp_lang.specs.Views.{FieldView, crdt_field_view, crdt_view, fields_of}
use Rattle.rp_lang.specs.declared.crdt.Field.{Field}
use Rattle.rp_lang.specs.declared.op.PathStep.TheVariants as step
use Rattle.rp_lang.proofs.CrdtViews.{crdt_field_view-parts}
use Rattle.rp_lang.specs.FirstForm.{tx}
use Rattle.rp_lang.specs.declared.op.OpDecl.{OpDecl}
use Rattle.type_rules.specs.declared.kind.Kind.{Kind}
use Rattle.type_rules.specs.Names.{Names}
use Rattle.type_rules.specs.Paths.{Member, members_of}
use Rattle.type_rules.specs.Queries.{names_of}
use Rattle.desugaring.specs.Parts.{both, each}
use Rattle.desugaring.specs.Objects.{KindStep, OwnOp, OwnQuery, PathOp, PathQuery, Root, Own, all_of, all_on, field, key, keys_on, ops_at, roots_of, own_op, own_query, queries_at}
use Rattle.desugaring.specs.Tables.{Tables, op_decl, op_table, query_decl, query_table, step_of, ty_of}
use Rattle.text_tables.specs.declared.members.Members.{Members}
use Rattle.text_tables.specs.declared.spot.Spot.{Spot}
use Rattle.text_tables.specs.means.Rooted.{Declares, DeclaresFields, DeclaresInside, DeclaresOn, DeclaresOwn, DeclaresRoots, IsAt, behind_fields, ops_with, queries_with, root_in, roots_in, starting}
use Rattle.text_tables.proofs.DeclaredLaw.{roots_are}
use Rattle.text_tables.proofs.Growing.{each_both, from_nothing, grows_both, grows_none}

-- # Fields

behind_one : (fs : List FieldView) (f : FieldView) (more : CrFields) → behind_fields (fs ++ f ∷ []) more ≡ behind_fields fs (also_field f.0 f.1 more)
behind_one [] f more = refl
behind_one (g ∷ fs) f more = ap (also_field g.0 g.1) (behind_one fs f more)

pub fields_more : (fs : List FieldView) (f : FieldView) (o : Option CrFields) (p : Option Cr) → p ≡ Some f.1
    → option_map (behind_fields (fs ++ f ∷ [])) o ≡ option_map (behind_fields fs) (both (also_field f.0) p o)
fields_more fs f None p e = ap (λ p. option_map (behind_fields fs) (both (also_field f.0) p None)) (sym e)
fields_more fs f (Some more) p e =
    ap Some (behind_one fs f more) ∙ ap (λ p. option_map (behind_fields fs) (both (also_field f.0) p (Some more))) (sym e)

pub fields_all : (fs : List FieldView) → behind_fields fs no_field ≡ fields_of fs
fields_all [] = refl
fields_all (f ∷ fs) = ap (also_field f.0 f.1) (fields_all fs)

pub field_pushed : (made : List Field) (f : Field) → map crdt_field_view (made ++ f ∷ []) ≡ map crdt_field_view made ++ (f.name, crdt_view f.crdt) ∷ []
field_pushed made f = map-append crdt_field_view made (f ∷ []) ∙ ap (λ g. map crdt_field_view made ++ g ∷ []) (crdt_field_view-parts f)

-- # Paths

pub at_start : (t : Tables) (spot : Spot) → spot.path ≡ [] → spot.keys ≡ [] → IsAt t [] spot
at_start t spot path keys = record { steps = ap Some (sym path); keys = ap Some (sym keys) }

keys_both : (p q : List KindStep) → keys_on (p ++ q) ≡ keys_on p ++ keys_on q
keys_both [] q = refl
keys_both (field k ∷ p) q = keys_both p q
keys_both (key k ∷ p) q = ap (λ ks. k ∷ ks) (keys_both p q)

each_more : {X Y : Type 0} (f : X → Option Y) (xs : List X) (ys : List Y) (x : X) (y : Y) → each f xs ≡ Some ys → f x ≡ Some y → each f (xs ++ x ∷ []) ≡ Some (ys ++ y ∷ [])
each_more f xs ys x y e h =
    each_both f xs (x ∷ []) ∙ ap₂ (both (λ a b. a ++ b)) e (ap (λ o. both ◌∷◌ o (Some [])) h)

pub past_field : (t : Tables) (path : List KindStep) (old new : Spot) (k : ℕ) → IsAt t path old → new.path ≡ old.path ++ step.Field k ∷ [] → new.keys ≡ old.keys
    → IsAt t (path ++ field k ∷ []) new
past_field t path old new k at steps keys = record {
  steps = each_more (step_of t) path old.path (field k) (step.Field k) at.steps refl ∙ ap Some (sym steps);
  keys = ap (each (ty_of t)) (keys_both path (field k ∷ []) ∙ append-nil (keys_on path)) ∙ at.keys ∙ ap Some (sym keys);
}

pub past_key : (t : Tables) (path : List KindStep) (old new : Spot) (kind : Kind) (ty : Ty) → IsAt t path old → ty_of t kind ≡ Some ty
    → new.path ≡ old.path ++ step.Key ty ∷ [] → new.keys ≡ old.keys ++ ty ∷ [] → IsAt t (path ++ key kind ∷ []) new
past_key t path old new kind ty at e steps keys = record {
  steps = each_more (step_of t) path old.path (key kind) (step.Key ty) at.steps (ap (option_map step.Key) e) ∙ ap Some (sym steps);
  keys = ap (each (ty_of t)) (keys_both path (key kind ∷ [])) ∙ each_more (ty_of t) (keys_on path) old.keys kind ty at.keys e ∙ ap Some (sym keys);
}

-- # What is declared

pub declares_none : (t : Tables) (ms : Members) → Declares t ms [] [] ms
declares_none t ms = record { ops_are = grows_none (op_decl t) ms.ops; queries_are = grows_none (query_decl t) ms.queries }

pub declares_both : (t : Tables) (old mid new : Members) (os ps : List PathOp) (qs rs : List PathQuery) → Declares t old os qs mid → Declares t mid ps rs new
    → Declares t old (os ++ ps) (qs ++ rs) new
declares_both t old mid new os ps qs rs one other = record {
  ops_are = grows_both (op_decl t) old.ops mid.ops new.ops os ps one.ops_are other.ops_are;
  queries_are = grows_both (query_decl t) old.queries mid.queries new.queries qs rs one.queries_are other.queries_are;
}

pub own_step : (t : Tables) (root : ℕ) (path : List KindStep) (m : Member) (ms : List Member) (old mid new : Members)
    → DeclaresOwn t root path (m ∷ []) old mid → DeclaresOwn t root path ms mid new → DeclaresOwn t root path (m ∷ ms) old new
own_step t root path m ms old mid new one other =
    subst (λ os. Declares t old os (queries_with root path (m ∷ ms)) new) (sym ops)
    (subst (λ qs. Declares t old (ops_with root path (m ∷ []) ++ ops_with root path ms) qs new) (sym queries)
    (declares_both t old mid new _ _ _ _ one other))
  where
    op : OwnOp → PathOp
    op own = record { root = root; path = path; own = own }

    query : OwnQuery → PathQuery
    query own = record { root = root; path = path; own = own }

    ops : ops_with root path (m ∷ ms) ≡ ops_with root path (m ∷ []) ++ ops_with root path ms
    ops = ap (map op) (filter_map-append own_op (m ∷ []) ms) ∙ map-append op (filter_map own_op (m ∷ [])) (filter_map own_op ms)

    queries : queries_with root path (m ∷ ms) ≡ queries_with root path (m ∷ []) ++ queries_with root path ms
    queries = ap (map query) (filter_map-append own_query (m ∷ []) ms) ∙ map-append query (filter_map own_query (m ∷ [])) (filter_map own_query ms)

pub fields_step : (t : Tables) (root : ℕ) (path : List KindStep) (k : ℕ) (x : Ident) (c : CrdtTree) (rest : FieldTrees) (old mid new : Members)
    → DeclaresOn t root (path ++ field k ∷ []) c old mid → DeclaresFields t root path (k + 1) rest mid new
    → DeclaresFields t root path k (FieldTrees.more_fields (FieldTree.field x c) rest) old new
fields_step t root path k x c rest old mid new one other = declares_both t old mid new _ _ _ _ one other

pub on_step : (t : Tables) (root : ℕ) (path : List KindStep) (at : Span) (form : CrdtForm) (old mid new : Members)
    → DeclaresOwn t root path (members_of t.names form) old mid → DeclaresInside t root path form mid new
    → DeclaresOn t root path (CrdtTree.node at form) old new
on_step t root path at form old mid new one other = declares_both t old mid new _ _ _ _ one other

of_both : {X : Type 0} (n : Names) (own : Own X) (k : ℕ) (rs ss : List Root) → all_of n own k (rs ++ ss) ≡ all_of n own k rs ++ all_of n own (k + length rs) ss
of_both n own k [] ss = ap (λ j. all_of n own j ss) (omega arith)
of_both n own k (root ∷ rs) ss =
    let next : k + 1 + length rs ≡ k + suc (length rs) = omega arith in
    ap (λ xs. all_on n own k [] root.crdt ++ xs) (of_both n own (k + 1) rs ss ∙ ap (λ j. all_of n own (k + 1) rs ++ all_of n own j ss) next)
    ∙ sym (append_assoc (all_on n own k [] root.crdt) (all_of n own (k + 1) rs) (all_of n own (k + suc (length rs)) ss))

pub roots_step : (t : Tables) (k j : ℕ) (d : DeclTree) (ds : List DeclTree) (old mid new : Members) → DeclaresRoots t k (roots_in (d ∷ [])) old mid
    → j ≡ k + length (roots_in (d ∷ [])) → DeclaresRoots t j (roots_in ds) mid new → DeclaresRoots t k (roots_in (d ∷ ds)) old new
roots_step t k j d ds old mid new one next other =
    let n = t.names in
    subst (λ rs. DeclaresRoots t k rs old new) (sym (filter_map-append root_in (d ∷ []) ds))
    (subst (λ os. Declares t old os (all_of n (queries_at n) k (roots_in (d ∷ []) ++ roots_in ds)) new) (sym (of_both n (ops_at n) k (roots_in (d ∷ [])) (roots_in ds)))
    (subst (λ qs. Declares t old (all_of n (ops_at n) k (roots_in (d ∷ [])) ++ all_of n (ops_at n) (k + length (roots_in (d ∷ []))) (roots_in ds)) qs new)
    (sym (of_both n (queries_at n) k (roots_in (d ∷ [])) (roots_in ds)))
    (declares_both t old mid new _ _ _ _ one (subst (λ i. DeclaresRoots t i (roots_in ds) mid new) next other))))

pub one_root : (t : Tables) (k : ℕ) (root : Root) (old new : Members) → DeclaresOn t k [] root.crdt old new → DeclaresRoots t k (root ∷ []) old new
one_root t k root old new adds =
    let n = t.names in
    subst (λ os. Declares t old os (all_on n (queries_at n) k [] root.crdt ++ []) new) (sym (append-nil (all_on n (ops_at n) k [] root.crdt)))
    (subst (λ qs. Declares t old (all_on n (ops_at n) k [] root.crdt) qs new) (sym (append-nil (all_on n (queries_at n) k [] root.crdt))) adds)

-- from `tx` alone
op_table_is : (ds : Option (List OpDecl)) (new : List OpDecl) → option_map (λ more. (tx ∷ []) ++ more) ds ≡ Some new → option_map (λ ops. tx ∷ ops) ds ≡ Some new
op_table_is ds new e = e

pub tables_made : (t : Tables) (new : Members) → t.ops ≡ all_of t.names (ops_at t.names) 0 t.roots → t.queries ≡ all_of t.names (queries_at t.names) 0 t.roots
    → DeclaresRoots t 0 t.roots starting new → (op_table t ≡ Some new.ops) × (query_table t ≡ Some new.queries)
tables_made t new ops queries adds = (
  op_table_is (each (op_decl t) t.ops) new.ops (ap (λ os. option_map (λ more. (tx ∷ []) ++ more) (each (op_decl t) os)) ops ∙ adds.ops_are),
  ap (each (query_decl t)) queries ∙ from_nothing (query_decl t) (all_of t.names (queries_at t.names) 0 t.roots) new.queries adds.queries_are,
)

pub declared_tables : (t : Tables) (ds : List DeclTree) (rest : List Root) (k : ℕ) (now : Members) → t.names ≡ names_of ds → t.roots ≡ roots_of t.names
    → t.ops ≡ all_of t.names (ops_at t.names) 0 t.roots → t.queries ≡ all_of t.names (queries_at t.names) 0 t.roots → rest ≡ []
    → ((new : Members) → DeclaresRoots t k rest now new → DeclaresRoots t 0 (roots_in ds) starting new) → (op_table t ≡ Some now.ops) × (query_table t ≡ Some now.queries)
declared_tables t ds rest k now named roots ops queries none go =
    let all : t.roots ≡ roots_in ds = roots ∙ ap roots_of named ∙ roots_are ds in
    tables_made t now ops queries
    (subst (λ rs. DeclaresRoots t 0 rs starting now) (sym all)
    (go now (subst (λ rs. DeclaresRoots t k rs now now) (sym none) (declares_none t now))))
