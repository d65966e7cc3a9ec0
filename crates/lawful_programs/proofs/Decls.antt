-- What the declarations of a lawful text speak of has numbers, and its procedures become something.
use Rattle.std.proofs.Common.{◌≡◌, ◌+◌, ℕ, zero, suc, true, List, [], ◌∷◌, ◌++◌, map, length, Option, Some, None, refl, ap, subst, sym, arith}
use Rattle.std.specs.Prelude.{slice_get, flat_map, option_map}
use Rattle.std.proofs.lemmas.List.{append_assoc}
use Rattle.rp_span.specs.declared.Span.{Span}
use Rattle.rp_value.specs.declared.tables.Ty.{Ty}
use Rattle.rp_grammar.specs.Trees.{Ident, TypeTree, ParamTree, QueryTree, ProcTree, DeclForm, DeclTree}
use Rattle.rp_lang.specs.Exprs.{Slot}
use Rattle.rp_lang.specs.Programs.{Proc}
use Rattle.type_rules.specs.declared.kind.Base.TheVariants as base
use Rattle.type_rules.specs.declared.role.Role.{Role}
use Rattle.type_rules.specs.declared.role.Role.TheVariants as role
use Rattle.type_rules.specs.Names.{Name, Names, TypeEntry, TypeSort, param_name, param_type, text_of, types_from, types_in}
use Rattle.type_rules.specs.Kinds.{bool_kind, kind_of, param_kinds, plain_kind}
use Rattle.type_rules.specs.Accesses.{Var, proc_params, proc_result, result_args}
use Rattle.type_rules.specs.Queries.{names_of, param_var, param_vars}
use Rattle.type_rules.specs.Sites.{Site}
use Rattle.type_rules.specs.ExprSites.{asks, bool_whole, expr_sites}
use Rattle.type_rules.specs.Flow.{after_block}
use Rattle.type_rules.specs.Starts.{brace_of}
use Rattle.type_rules.specs.StmtSites.{block_sites, is_there}
use Rattle.type_rules.specs.DeclSites.{declares_all, frame_for, named_all, param_sites, proc_sites, query_sites, result_sites, scope_for, sight_for, written_all}
use Rattle.type_rules.specs.TextSites.{nothing_seen}
use Rattle.type_rules.specs.Faults.{IsLawful}
use Rattle.desugaring.specs.Parts.{each}
use Rattle.desugaring.specs.Appearances.{crdt_kinds, decl_kinds, kinds_from, site_kinds}
use Rattle.desugaring.specs.Tables.{Tables, tables_of}
use Rattle.desugaring.specs.Callees.{Vars, stand}
use Rattle.desugaring.specs.Expressions.{uses_before}
use Rattle.desugaring.specs.Programs.{ProcDecl, body_place, param_stands, proc_body, proc_for, proc_made, proc_with, procs_from, result_ty}
use Rattle.desugaring.specs.Statements.{slotted}
use Rattle.desugaring.proofs.Options.{map_is, then_is, three_is}
use Rattle.lawful.specs.Kept.{may_speak}
use Rattle.lawful.proofs.Behind.{inner_there}
use Rattle.lawful.proofs.Places.{Lawfully, all_both, all_lawful, all_parts, types_are}
use Rattle.lawful_programs.specs.Valued.{Sound, AllSound, IsWhole, AllWhole, AskedWhole, Ready, Seen, nothing, another}
use Rattle.lawful_programs.proofs.Wholes.{bare_whole, truth_whole, whole_known, written_whole}
use Rattle.lawful_programs.proofs.Bases.{base_whole, text_based, text_numbered}
use Rattle.lawful_programs.proofs.Crdts.{crdt_whole}
use Rattle.lawful_programs.proofs.Datatypes.{crdt_parts, once_whole, parts_whole, sites_whole}
use Rattle.lawful_programs.proofs.Flow.{Exact, exact_also}
use Rattle.lawful_programs.proofs.Invariants.{each_total}
use Rattle.lawful_programs.proofs.Sights.{Here, slotted_whole}
use Rattle.lawful_programs.proofs.Sounds.{ProcSound, all_sound, decl_within, each_numbered, invariant_sound, param_sites_whole, procs_sound, query_kinds, query_sound, result_whole}
use Rattle.lawful_programs.proofs.StmtWalk.{block_wholes}
use Rattle.lawful_programs.proofs.Stmts.{block_there}
use Rattle.lawful_programs.proofs.Tables.{tys_there}
use Rattle.lawful_programs.proofs.Texts.{text_ready}
use Rattle.lawful_programs.proofs.Uses.{param_vars_whole}
use Rattle.lawful_programs.proofs.Walk.{Wholes, join, wholes}

-- # Places that are no expressions

named_wholes : (t : Tables) (before : List Name) (xs : List Ident) → Wholes t (named_all before xs)
named_wholes t before [] = tt
named_wholes t before (x ∷ xs) = (tt, named_wholes t (text_of x ∷ before) xs)

declares_wholes : (t : Tables) (vs : List Var) (params : List ParamTree) → Wholes t (declares_all t.names vs params)
declares_wholes t vs [] = tt
declares_wholes t vs (q ∷ params) = (tt, declares_wholes t (vs ++ param_var t.names q ∷ []) params)

written_wholes : (t : Tables) (k : ℕ) (r : Role) (params : List ParamTree) → Wholes t (written_all k r params)
written_wholes t k r [] = tt
written_wholes t k r (q ∷ params) = (tt, written_wholes t k r params)

params_wholes : (t : Tables) (k : ℕ) (r : Role) (params : List ParamTree) → Wholes t (param_sites t.names k r params)
params_wholes t k r params =
    join t (named_all [] (map param_name params) ++ declares_all t.names [] params) (written_all k r params)
    (join t (named_all [] (map param_name params)) (declares_all t.names [] params) (named_wholes t [] (map param_name params)) (declares_wholes t [] params))
    (written_wholes t k r params)

result_wholes : (t : Tables) (k : ℕ) (result : Option TypeTree) → Wholes t (result_sites k result)
result_wholes t k None = tt
result_wholes t k (Some ty) = (tt, tt)

-- # Queries

abbrev stands_for : Names → List ParamTree → Vars
stands_for n [] = []
stands_for n (q ∷ params) = stand (text_of (param_name q)) (kind_of n (param_type q)) (Slot 0) ∷ stands_for n params

seen_for : (n : Names) (params : List ParamTree) → Seen (param_vars n params) (stands_for n params)
seen_for n [] = nothing
seen_for n (q ∷ params) = another (seen_for n params)

query_wholes : (tree : List DeclTree) → IsLawful tree → (m : ℕ) (at : Span) (q : QueryTree) → slice_get tree m ≡ Some (DeclTree.node at (DeclForm.query q))
    → Wholes (tables_of tree) (query_sites (names_of tree) m (may_speak tree m) q)
query_wholes tree lawful m at (QueryTree.query x params result body) there =
    let t = tables_of tree in
    let n = names_of tree in
    let ready = text_ready tree lawful m in
    let front = param_sites n m role.QueryParam params in
    let p = all_parts (Sound t) front _ (query_sound tree lawful m at (QueryTree.query x params result body) there) in
    let params_are = param_sites_whole t ready.bool m role.QueryParam params p.0 in
    let result_is = written_whole t ready.bool m role.QueryResult result p.1.0 in
    join t front _ (params_wholes t m role.QueryParam params) (
      tt,
      wholes t m (uses_before t m) ready (scope_for n m (may_speak tree m) params) (stands_for n params) (asks 21 (kind_of n result)) body
          (record { decl = refl; seen = seen_for n params; whole = param_vars_whole t params params_are }) result_is p.1.1,
    )

-- # Procedures

exact_params : (n : Names) (ws : List Var) (vs : Vars) (next : ℕ) (params : List ParamTree) → Exact ws vs
    → Exact (ws ++ param_vars n params) (slotted vs next (map param_name params) (param_kinds n params))
exact_params n ws vs next [] e = subst (λ z. Exact z vs) (sym (no_more ws)) e where
  no_more : (ws : List Var) → ws ++ [] ≡ ws
  no_more [] = refl
  no_more (w ∷ ws) = ap (λ z. w ∷ z) (no_more ws)
exact_params n ws vs next (q ∷ params) e =
    let k = kind_of n (param_type q) in
    let s = stand (text_of (param_name q)) k (Slot next) in
    subst (λ z. Exact z (slotted (vs ++ s ∷ []) (next + 1) (map param_name params) (param_kinds n params))) (append_assoc ws (param_var n q ∷ []) (param_vars n params))
    (exact_params n (ws ++ param_var n q ∷ []) (vs ++ s ∷ []) (next + 1) params (exact_also ws vs (param_var n q) s refl refl e))

as_many : (n : Names) (params : List ParamTree) → length (param_kinds n params) ≡ length (map param_name params)
as_many n [] = refl
as_many n (q ∷ params) = ap suc (as_many n params)

proc_here : (t : Tables) (m : ℕ) (params : List ParamTree) (result : Option TypeTree) → AllWhole t (param_kinds t.names params)
    → Here t m (frame_for t.names m result) (sight_for t.names params) (slotted [] 0 (map param_name params) (param_kinds t.names params))
proc_here t m params result whole = record {
  decl = refl;
  exact = exact_params t.names [] [] 0 params (record { begins = tt; many = refl });
  whole = slotted_whole t [] 0 (map param_name params) (param_kinds t.names params) tt whole (as_many t.names params);
}

asked_there : (t : Tables) (result : Option TypeTree) → AllWhole t (result_args t.names result) → AskedWhole t (option_map (kind_of t.names) result)
asked_there t None whole = tt
asked_there t (Some ty) whole = whole.0

-- the parts of a procedure's places
record ProcParts (t : Tables) (m : ℕ) (params : List ParamTree) (result : Option TypeTree) (q : ProcTree) : Type 0 where
  params_are : AllWhole t (param_kinds t.names params)
  result_is : AllWhole t (result_args t.names result)
  body : AllSound t (block_sites t.names (frame_for t.names m result) (sight_for t.names params) (proc_body q))

proc_parts : (t : Tables) (b : ℕ) → Ready t b (uses_before t b) → (m : ℕ) (q : ProcTree) → AllSound t (proc_sites t.names m q)
    → ProcParts t m (proc_params q) (proc_result q) q
proc_parts t b ready m (ProcTree.proc x params result body) sound =
    let n = t.names in
    let own = param_sites n m role.Variable params in
    let front = own ++ result_sites m result in
    let here = block_sites n (frame_for n m result) (sight_for n params) body in
    let close = Site.closes (after_block n (sight_for n params) body).live (is_there result) (brace_of body) in
    let whole = all_parts (Sound t) front here (all_parts (Sound t) (front ++ here) (close ∷ []) sound).0 in
    let heads = all_parts (Sound t) own (result_sites m result) whole.0 in
    record {
      params_are = param_sites_whole t ready.bool m role.Variable params heads.0;
      result_is = result_whole t ready.bool m result heads.1;
      body = whole.1;
    }

proc_wholes : (t : Tables) (m : ℕ) → Ready t m (uses_before t m) → (q : ProcTree) → AllSound t (proc_sites t.names m q) → Wholes t (proc_sites t.names m q)
proc_wholes t m ready (ProcTree.proc x params result body) sound =
    let n = t.names in
    let p = proc_parts t m ready m (ProcTree.proc x params result body) sound in
    let own = param_sites n m role.Variable params in
    let front = own ++ result_sites m result in
    let here = block_sites n (frame_for n m result) (sight_for n params) body in
    let close = Site.closes (after_block n (sight_for n params) body).live (is_there result) (brace_of body) in
    join t (front ++ here) (close ∷ [])
    (join t front here (join t own (result_sites m result) (params_wholes t m role.Variable params) (result_wholes t m result))
    (block_wholes t m (uses_before t m) ready (frame_for n m result) (sight_for n params) (slotted [] 0 (map param_name params) (param_kinds n params)) body
    (asked_there t result p.result_is) (proc_here t m params result p.params_are) p.body)) (tt, tt)

result_ty_there : (t : Tables) (result : Option TypeTree) → AllWhole t (result_args t.names result) → (of : Option Ty) × (result_ty t result ≡ Some of)
result_ty_there t None whole = (None, refl)
result_ty_there t (Some ty) whole = let of = whole_known t (kind_of t.names ty) whole.0 in (Some of.0, map_is Some _ of.0 of.1)

proc_there : (tree : List DeclTree) → IsLawful tree → (d : ProcDecl) → ProcSound tree d → (p : Proc) × (proc_for (tables_of tree) d ≡ Some p)
proc_there tree lawful d sound =
    let t = tables_of tree in
    let n = names_of tree in
    let ready = text_ready tree lawful d.decl in
    let q = d.tree in
    let parts_ = proc_parts t d.decl ready d.decl q sound in
    let kinds = param_kinds n (proc_params q) in
    let m = block_there t d.decl (uses_before t d.decl) ready (frame_for n d.decl (proc_result q)) (sight_for n (proc_params q)) (body_place n d) (param_stands n d)
    (length (proc_params q)) (proc_body q) refl (asked_there t (proc_result q) parts_.result_is) (proc_here t d.decl (proc_params q) (proc_result q) parts_.params_are) parts_.body in
    let params = tys_there t kinds parts_.params_are in
    let result = result_ty_there t (proc_result q) parts_.result_is in
    let slots = tys_there t (kinds ++ m.0.slots) (all_both (IsWhole t) kinds m.0.slots parts_.params_are m.2) in (
      proc_with d m.0 params.0 result.0 slots.0,
      then_is (proc_made t d) _ m.0 _ m.1 (three_is (proc_with d m.0) _ _ _ params.0 result.0 slots.0 params.1 result.1 slots.1),
    )

pub procs_there : (tree : List DeclTree) → IsLawful tree → (procs : List Proc) × (each (proc_for (tables_of tree)) (procs_from 0 tree) ≡ Some procs)
procs_there tree lawful = each_total (ProcSound tree) (proc_for (tables_of tree)) (proc_there tree lawful) (procs_from 0 tree) (procs_sound tree lawful)

-- # What declarations speak of

left_there : (xs ys : List TypeEntry) (j : ℕ) (e : TypeEntry) → slice_get xs j ≡ Some e → slice_get (xs ++ ys) j ≡ Some e
left_there [] ys j e h = absurd cc
left_there (x ∷ xs) ys zero e h = h
left_there (x ∷ xs) ys (suc j) e h = left_there xs ys j e h

right_there : (xs ys : List TypeEntry) (j : ℕ) (e : TypeEntry) → slice_get ys j ≡ Some e → slice_get (xs ++ ys) (length xs + j) ≡ Some e
right_there [] ys j e h = let same : j ≡ 0 + j = omega arith in subst (λ z. slice_get ys z ≡ Some e) same h
right_there (x ∷ xs) ys j e h =
    let next : suc (length xs + j) ≡ length (x ∷ xs) + j = omega arith in
    subst (λ z. slice_get (x ∷ (xs ++ ys)) z ≡ Some e) next (right_there xs ys j e h)

proc_at : (tree : List DeclTree) → IsLawful tree → (k : ℕ) (at : Span) (q : ProcTree) → slice_get tree k ≡ Some (DeclTree.node at (DeclForm.proc q))
    → AllSound (tables_of tree) (proc_sites (names_of tree) k q)
proc_at tree lawful k at q there =
    let n = names_of tree in
    let sites = proc_sites n k q in
    let number : 0 + k ≡ k = omega arith in
    all_sound (tables_of tree) sites (inner_there (Lawfully n) n nothing_seen 0 tree (all_lawful tree lawful) k k at (DeclForm.proc q) number there)
    (each_numbered (tables_of tree) sites (decl_within tree k at (DeclForm.proc q) (flat_map (site_kinds n) sites) there (λ before. refl)))

abbrev Behind : List DeclTree → ℕ → List DeclTree → Type 0
Behind tree k ds = (i : ℕ) (d : DeclTree) → slice_get ds i ≡ Some d → slice_get tree (k + i) ≡ Some d

abbrev TypesBehind : List DeclTree → ℕ → List TypeEntry → Type 0
TypesBehind tree type es = (j : ℕ) (e : TypeEntry) → slice_get es j ≡ Some e → slice_get (names_of tree).types (type + j) ≡ Some e

own_kinds : (tree : List DeclTree) → IsLawful tree → (k type : ℕ) (at : Span) (form : DeclForm) → slice_get tree k ≡ Some (DeclTree.node at form)
    → TypesBehind tree type (types_in k (DeclTree.node at form)) → AllWhole (tables_of tree) (decl_kinds (names_of tree) k type form)
own_kinds tree lawful k type at (DeclForm.id_type x) there types = tt
own_kinds tree lawful k type at (DeclForm.opaque x) there types = tt
own_kinds tree lawful k type at (DeclForm.datatype x cons) there types =
    let t = tables_of tree in
    let number : type + 0 ≡ type = omega arith in
    let entry : TypeEntry = record { name = text_of x; decl = k; sort = TypeSort.datatype cons } in
    let is : slice_get (names_of tree).types type ≡ Some entry = subst (λ i. slice_get (names_of tree).types i ≡ Some entry) number (types 0 entry refl) in
    parts_whole t (text_numbered tree) (text_based tree lawful) (plain_kind (base.Declared type))
    (bare_whole t (base.Declared type) (base_whole t (text_numbered tree) (base.Declared type) (entry, is)))
own_kinds tree lawful k type at (DeclForm.crdt x c) there types =
    let t = tables_of tree in
    let n = names_of tree in
    let number : 0 + k ≡ k = omega arith in
    crdt_parts t (text_numbered tree) (text_based tree lawful) c
    (crdt_whole t (text_numbered tree) k c (inner_there (Lawfully n) n nothing_seen 0 tree (all_lawful tree lawful) k k at (DeclForm.crdt x c) number there)
    (decl_within tree k at (DeclForm.crdt x c) (crdt_kinds n c) there (λ before. refl)))
own_kinds tree lawful k type at (DeclForm.query q) there types =
    let t = tables_of tree in
    let n = names_of tree in
    subst (AllWhole t) (query_kinds n k (may_speak tree k) q)
    (sites_whole t (text_numbered tree) (text_based tree lawful) (query_sites n k (may_speak tree k) q) (query_sound tree lawful k at q there) (query_wholes tree lawful k at q there))
own_kinds tree lawful k type at (DeclForm.invariant x e) there types =
    let t = tables_of tree in
    let n = names_of tree in
    let ready = text_ready tree lawful k in
    let sound = invariant_sound tree lawful k at x e there in
    sites_whole t (text_numbered tree) (text_based tree lawful) (expr_sites n (scope_for n k true []) bool_whole e) sound
    (wholes t k (uses_before t k) ready (scope_for n k true []) [] bool_whole e (record { decl = refl; seen = nothing; whole = tt }) (truth_whole t ready.bool) sound)
own_kinds tree lawful k type at (DeclForm.proc q) there types =
    let t = tables_of tree in
    let n = names_of tree in
    let sound = proc_at tree lawful k at q there in
    sites_whole t (text_numbered tree) (text_based tree lawful) (proc_sites n k q) sound (proc_wholes t k (text_ready tree lawful k) q sound)

kinds_whole : (tree : List DeclTree) → IsLawful tree → (k type : ℕ) (ds : List DeclTree) → Behind tree k ds → TypesBehind tree type (types_from k ds)
    → AllWhole (tables_of tree) (kinds_from (names_of tree) k type ds)
kinds_whole tree lawful k type [] behind types = tt
kinds_whole tree lawful k type (DeclTree.node at form ∷ ds) behind types =
    let t = tables_of tree in
    let n = names_of tree in
    let d = DeclTree.node at form in
    let own = types_in k d in
    let zeroth : k + 0 ≡ k = omega arith in
    let there = subst (λ i. slice_get tree i ≡ Some d) zeroth (behind 0 d refl) in
    all_both (IsWhole t) (decl_kinds n k type form) (kinds_from n (k + 1) (type + length own) ds)
    (own_kinds tree lawful k type at form there (λ j e h. types j e (left_there own (types_from (k + 1) ds) j e h)))
    (kinds_whole tree lawful (k + 1) (type + length own) ds
    (λ i e h. let next : k + suc i ≡ k + 1 + i = omega arith in subst (λ z. slice_get tree z ≡ Some e) next (behind (suc i) e h))
    (λ j e h.
    let r = right_there own (types_from (k + 1) ds) j e h in
    let next : type + (length own + j) ≡ type + length own + j = omega arith in
    subst (λ z. slice_get n.types z ≡ Some e) next (types (length own + j) e r)))

pub datatypes_whole : (tree : List DeclTree) → IsLawful tree → AllWhole (tables_of tree) (tables_of tree).datatypes
datatypes_whole tree lawful =
    let t = tables_of tree in
    let n = names_of tree in
    once_whole t (bool_kind ∷ kinds_from n 0 0 tree) (
      truth_whole t (text_numbered tree).bool,
      kinds_whole tree lawful 0 0 tree
          (λ i d h. let same : i ≡ 0 + i = omega arith in subst (λ z. slice_get tree z ≡ Some d) same h)
          (λ j e h. let same : j ≡ 0 + j = omega arith in
          subst (λ z. slice_get n.types z ≡ Some e) same (subst (λ es. slice_get es j ≡ Some e) (sym (types_are tree)) h)),
    )
