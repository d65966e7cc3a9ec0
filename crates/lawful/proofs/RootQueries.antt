-- The queries of a lawful text's roots are well formed.
use Rattle.std.proofs.Common.{◌≡◌, ◌+◌, ℕ, Bool, true, false, ◌&&◌, List, [], ◌∷◌, length, Some, refl, ap, subst, sym, ◌∙◌, arith, inl, inr}
use Rattle.std.specs.Prelude.{slice_get}
use Rattle.std.specs.List.{list_all, list_any}
use Rattle.std.proofs.lemmas.Bool.{and_from, and_parts, not-false, or_parts}
use Rattle.rp_value.specs.declared.tables.Ty.{Ty}
use Rattle.rp_value.specs.declared.tables.Ty.TheVariants as ty
use Rattle.rp_grammar.specs.Trees.{CrdtTree, CrdtForm, DeclTree}
use Rattle.rp_grammar.specs.Texts.{IsText}
use Rattle.rp_lang.specs.declared.limit.LimitName.TheVariants.{PathDepth}
use Rattle.rp_lang.specs.declared.query.QueryDecl.{QueryDecl}
use Rattle.rp_lang.specs.Crdts.{Cr, SetAw, SetRw, Reg, MvReg, MapUw, MapDw}
use Rattle.rp_lang.specs.Paths.{is_query, query_fits, query_stands, own_args, root_crdt}
use Rattle.rp_lang.specs.Paths as paths
use Rattle.rp_lang.specs.Programs.{Prog, Rt}
use Rattle.rp_lang.specs.Types.{bool_ty, is_maybe_of, is_nothing, is_one, is_ty, same_ty}
use Rattle.rp_lang.specs.WellFormed.{are_queries}
use Rattle.type_rules.specs.declared.kind.Kind.{Kind}
use Rattle.type_rules.specs.Kinds.{bool_kind, kind_of, maybe_of}
use Rattle.type_rules.specs.Queries.{names_of}
use Rattle.type_rules.specs.Paths.{form_of}
use Rattle.type_rules.specs.Faults.{IsOneOf}
use Rattle.desugaring.specs.Parts.{each}
use Rattle.desugaring.specs.Objects.{keys_on, query_kinds, queries_at, OwnQuery, own_queries, PathQuery}
use Rattle.desugaring.specs.Tables.{Tables, cr_of, form_cr, query_decl, query_with, root_of, root_with, step_of, tables_of, ty_of}
use Rattle.desugaring.specs.Limits.{HasProgram, is_past}
use Rattle.desugaring.proofs.Fields.{each_at}
use Rattle.desugaring.proofs.Options.{both_there, each_there, map_there, three_there}
use Rattle.lawful.proofs.Calls.{last_types}
use Rattle.lawful.proofs.Forms.{one}
use Rattle.lawful.proofs.Maybes.{maybe_fits}
use Rattle.lawful.proofs.Results.{pointwise_all}
use Rattle.lawful.proofs.RootCalls.{IsQueryOf, OnRoot, on_roots, queries_made}
use Rattle.lawful.proofs.RootOps.{ends_at, one_arg, own_are}
use Rattle.lawful.proofs.Tables.{tied}
use Rattle.lawful.proofs.Within.{within}

-- what the tables give of results
record Results (t : Tables) (p : Prog) : Type 0 where
  pub bool : ty_of t bool_kind ≡ Some bool_ty
  pub maybe : (k : Kind) (of result : Ty) → ty_of t k ≡ Some of → ty_of t (maybe_of k) ≡ Some result → is_maybe_of p.types p.cons of result ≡ true

abbrev Fits : Prog → Cr → List Ty → Ty → OwnQuery → Type 0
Fits p cr tys result own = query_fits p.types p.cons own.kind cr tys result ≡ true

-- the types of arguments and result
abbrev Typed : Tables → List Ty → Ty → OwnQuery → Type 0
Typed t tys result own = (each (ty_of t) own.args ≡ Some tys) × (ty_of t own.result ≡ Some result)

as_first : (t : Tables) (p : Prog) (cr : Cr) (first own : OwnQuery) (tys : List Ty) (result : Ty) → first ≡ own → Typed t tys result own
    → (Typed t tys result first → Fits p cr tys result first) → Fits p cr tys result own
as_first t p cr first own tys result is typed fits_ = subst (Fits p cr tys result) is (fits_ (subst (Typed t tys result) (sym is) typed))

-- whether it holds this
holds_one : (t : Tables) (p : Prog) → Results t p → (k : Kind) (of : Ty) (tys : List Ty) (result : Ty) → ty_of t k ≡ Some of
    → each (ty_of t) (k ∷ []) ≡ Some tys → ty_of t bool_kind ≡ Some result → (is_one of tys && same_ty result bool_ty) ≡ true
holds_one t p r k of tys result is args res =
    and_from _ _ (one_arg t k of tys is args) (subst (λ z. same_ty z bool_ty ≡ true) (one (sym r.bool ∙ res)) refl)

nothing_there : (t : Tables) (tys : List Ty) → each (ty_of t) [] ≡ Some tys → is_nothing tys ≡ true
nothing_there t tys e = subst (λ z. is_nothing z ≡ true) (one e) refl

query_own : (t : Tables) (p : Prog) → Results t p → (form : CrdtForm) (cr : Cr) → form_cr t form ≡ Some cr → (own : OwnQuery)
    → IsOneOf own (own_queries t.names form) → (tys : List Ty) (result : Ty) → Typed t tys result own → Fits p cr tys result own
query_own t p r (CrdtForm.set_aw e) cr m own at tys result typed =
    map_there (λ z. Fits p z tys result own) SetAw (ty_of t (kind_of t.names e)) cr m
    (λ of i. elim at [
      | inl is ↦ as_first t p (SetAw of) _ own tys result is typed (λ h. holds_one t p r (kind_of t.names e) of tys result i h.0 h.1)
      | inr is ↦ absurd is
    ])
query_own t p r (CrdtForm.set_rw e) cr m own at tys result typed =
    map_there (λ z. Fits p z tys result own) SetRw (ty_of t (kind_of t.names e)) cr m
    (λ of i. elim at [
      | inl is ↦ as_first t p (SetRw of) _ own tys result is typed (λ h. holds_one t p r (kind_of t.names e) of tys result i h.0 h.1)
      | inr is ↦ absurd is
    ])
query_own t p r (CrdtForm.reg e) cr m own at tys result typed =
    map_there (λ z. Fits p z tys result own) Reg (ty_of t (kind_of t.names e)) cr m
    (λ of i. elim at [
      | inl is ↦ as_first t p (Reg of) _ own tys result is typed
          (λ h. and_from _ _ (nothing_there t tys h.0) (r.maybe (kind_of t.names e) of result i h.1))
      | inr is ↦ absurd is
    ])
query_own t p r (CrdtForm.mv_reg e) cr m own at tys result typed =
    map_there (λ z. Fits p z tys result own) MvReg (ty_of t (kind_of t.names e)) cr m
    (λ of i. elim at [
      | inl is ↦ as_first t p (MvReg of) _ own tys result is typed (λ h. holds_one t p r (kind_of t.names e) of tys result i h.0 h.1)
      | inr is ↦ absurd is
    ])
query_own t p r CrdtForm.counter cr m own at tys result typed =
    subst (λ z. Fits p z tys result own) (one m)
    (elim at [
      | inl is ↦ as_first t p _ _ own tys result is typed
          (λ h. and_from _ _ (nothing_there t tys h.0) (subst (λ z. is_ty (Some ty.Int) z ≡ true) (one h.1) refl))
      | inr is ↦ absurd is
    ])
query_own t p r (CrdtForm.map_uw e c) cr m own at tys result typed =
    both_there (λ z. Fits p z tys result own) MapUw (ty_of t (kind_of t.names e)) (cr_of t c) cr m
    (λ of held i j. elim at [
      | inl is ↦ as_first t p (MapUw of held) _ own tys result is typed (λ h. holds_one t p r (kind_of t.names e) of tys result i h.0 h.1)
      | inr is ↦ absurd is
    ])
query_own t p r (CrdtForm.map_dw e c) cr m own at tys result typed =
    both_there (λ z. Fits p z tys result own) MapDw (ty_of t (kind_of t.names e)) (cr_of t c) cr m
    (λ of held i j. elim at [
      | inl is ↦ as_first t p (MapDw of held) _ own tys result is typed (λ h. holds_one t p r (kind_of t.names e) of tys result i h.0 h.1)
      | inr is ↦ absurd is
    ])
query_own t p r (CrdtForm.struct parts) cr m own at tys result typed = absurd at

tree_own : (t : Tables) (p : Prog) → Results t p → (d : CrdtTree) (cr : Cr) → cr_of t d ≡ Some cr → (own : OwnQuery)
    → IsOneOf own (own_queries t.names (form_of d)) → (tys : List Ty) (result : Ty) → Typed t tys result own → Fits p cr tys result own
tree_own t p r (CrdtTree.node at form) cr m own there tys result typed = query_own t p r form cr m own there tys result typed

abbrev stands_in : Prog → QueryDecl → Bool
stands_in p d = query_stands p.types p.cons d.kind (paths.reached (root_crdt (slice_get p.roots d.root)) d.path) (own_args d.path d.args) d.result

query_there : (t : Tables) (p : Prog) → Results t p → each (root_of t) t.roots ≡ Some p.roots → (q : PathQuery) (d : QueryDecl)
    → OnRoot t.names (λ root. IsQueryOf t.names root) 0 t.roots q → query_decl t q ≡ Some d → stands_in p d ≡ true
query_there t p r made q d on e =
    let root = each_at (root_of t) t.roots p.roots on.0 on.1 made on.2 in
    let place = on.3 in
    let is = place.3 in
    let standing : q.root ≡ 0 + on.0 = is.root_is in
    let number : q.root ≡ on.0 = omega (arith, standing) in
    three_there (λ z. stands_in p z ≡ true) (query_with q) (each (step_of t) q.path) (each (ty_of t) (query_kinds q)) (ty_of t q.own.result) d e
    (λ steps args result a b c.
    map_there (λ (z : Rt). slice_get p.roots on.0 ≡ Some z → stands_in p (query_with q steps args result) ≡ true) (root_with on.1.name) (cr_of t on.1.crdt) root.0 root.2
    (λ cr m at.
    let last = last_types t (keys_on q.path) q.own.args args b in
    let end = ends_at t on.1.crdt place.1 place.0 place.2 cr m steps (subst (λ z. each (step_of t) z ≡ Some steps) is.path_is a) in
    let own = own_are t q.path steps q.own.args args last.0 a b last.1 in
    let there : root_crdt (slice_get p.roots q.root) ≡ Some cr = ap (λ i. root_crdt (slice_get p.roots i)) number ∙ ap root_crdt at in
    subst (λ z. query_stands p.types p.cons q.own.kind (paths.reached z steps) (own_args steps args) result ≡ true) (sym there)
    (subst (λ z. query_stands p.types p.cons q.own.kind z (own_args steps args) result ≡ true) (sym end.reached)
    (subst (λ z. query_stands p.types p.cons q.own.kind (Some end.at) z result ≡ true) (sym own)
    (tree_own t p r place.1 end.at end.is q.own is.own_is last.0 result (last.1, c)))))
    root.1)

short_enough : (p : Prog) (queries : List QueryDecl) → list_any (λ (d : QueryDecl). is_past PathDepth (length d.path)) queries ≡ false
    → list_all (stands_in p) queries ≡ true → list_all (is_query p.types p.cons p.roots) queries ≡ true
short_enough p [] short all = refl
short_enough p (d ∷ queries) short all =
    let s = or_parts (is_past PathDepth (length d.path)) _ short in
    let a = and_parts (stands_in p d) _ all in
    and_from (is_query p.types p.cons p.roots d) _ (and_from _ _ (not-false _ s.0) a.0) (short_enough p queries s.1 a.1)

pub queries_well_formed : (bytes : List ℕ) (tree : List DeclTree) → IsText bytes tree → (p : Prog) → HasProgram tree p → are_queries p ≡ true
queries_well_formed bytes tree text p has =
    let t = tables_of tree in
    let n = names_of tree in
    let is = has.0.1 in
    let r : Results t p = record { bool = (tied bytes tree text p has.0).bool; maybe = maybe_fits tree p has.0 } in
    let on = on_roots n (queries_at n) (λ root. IsQueryOf n root) (queries_made n) 0 t.roots in
    let all = pointwise_all (λ (q : PathQuery) (d : QueryDecl). query_decl t q ≡ Some d) (OnRoot n (λ root. IsQueryOf n root) 0 t.roots) (stands_in p) t.queries p.queries
    (each_there (λ (q : PathQuery) (d : QueryDecl). query_decl t q ≡ Some d) (query_decl t) (λ q d e. e) t.queries p.queries is.queries) on
    (λ q d known e. query_there t p r is.roots q d known e) in
    short_enough p p.queries (or_parts _ _ (within p has.1).paths).1 all
