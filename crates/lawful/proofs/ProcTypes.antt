-- The bodies of a lawful text's procedures are well typed.
use Rattle.std.proofs.Common.{◌≡◌, ◌+◌, ℕ, Bool, true, false, not, ◌||◌, List, [], ◌∷◌, ◌++◌, map, length, Option, Some, None, refl, ap, subst, sym, ◌∙◌, arith}
use Rattle.std.specs.Prelude.{option_map, slice_get}
use Rattle.std.specs.List.{AllByRecursion, list_all, list_any}
use Rattle.std.proofs.lemmas.Bool.{and_from, not-false, or_parts}
use Rattle.std.proofs.lemmas.List.{append_assoc, length-append, length-map}
use Rattle.rp_span.specs.declared.Span.{Span}
use Rattle.rp_value.specs.declared.tables.Ty.{Ty}
use Rattle.rp_grammar.specs.Trees.{TypeTree, ParamTree, ProcTree, DeclTree}
use Rattle.rp_grammar.specs.Texts.{IsText}
use Rattle.rp_grammar.proofs.Formed.{FormedProc}
use Rattle.rp_grammar.proofs.FormedTexts.{Lexable, text_formed}
use Rattle.rp_lang.specs.declared.limit.LimitName.TheVariants.{Depth, Nodes}
use Rattle.rp_lang.specs.Exprs.{Ex, Exs, no_ex, also_ex}
use Rattle.rp_lang.specs.Formulas.{Fo}
use Rattle.rp_lang.specs.Sizes.{ex_depth, ex_nodes}
use Rattle.rp_lang.specs.Bounds.{is_small_ex, is_small_fo}
use Rattle.rp_lang.specs.Stmts.{St, Put, Decide, New, Operate, If, Match, Atomic, Assert, Return, ReturnWith, Sts, no_st, also_st, StArms, no_st_arm, also_st_arm}
use Rattle.rp_lang.specs.Programs.{Proc, Prog}
use Rattle.rp_lang.specs.Blocks.{are_stmts}
use Rattle.rp_lang.specs.WellFormed.{at_start, has_body}
use Rattle.type_rules.specs.declared.kind.Kind.{Kind}
use Rattle.type_rules.specs.declared.role.Role.TheVariants as role
use Rattle.type_rules.specs.Names.{Names, param_name, param_type}
use Rattle.type_rules.specs.Kinds.{bool_kind, kind_of, param_kinds}
use Rattle.type_rules.specs.Starts.{brace_of}
use Rattle.type_rules.specs.Queries.{names_of}
use Rattle.type_rules.specs.Sites.{Site}
use Rattle.type_rules.specs.Flow.{after_block}
use Rattle.type_rules.specs.StmtSites.{block_sites, is_there}
use Rattle.type_rules.specs.DeclSites.{frame_for, param_sites, proc_sites, result_sites, sight_for}
use Rattle.type_rules.specs.TextSites.{nothing_seen}
use Rattle.desugaring.specs.Appearances.{kinds_from}
use Rattle.desugaring.specs.Parts.{each, Pointwise, no_members, more_members}
use Rattle.desugaring.specs.Tables.{Tables, tables_of, ty_of}
use Rattle.desugaring.specs.Statements.{slot_kinds, slotted}
use Rattle.desugaring.specs.Limits.{HasProgram, binds_much, is_deep, is_large, is_past, some_in, some_in_all, some_in_arms, some_term}
use Rattle.desugaring.specs.Programs.{IsProc, ProcDecl, body_place, procs_from, result_ty}
use Rattle.desugaring.proofs.Options.{both_there, map_there}
use Rattle.lawful.specs.Kept.{AllKept, may_speak}
use Rattle.lawful.proofs.Arms.{cases_fit}
use Rattle.lawful.proofs.Atoms.{ids_fit}
use Rattle.lawful.proofs.Basics.{split}
use Rattle.lawful.proofs.Blocks.{kinds_differ}
use Rattle.lawful.proofs.Forms.{one}
use Rattle.lawful.proofs.Places.{Lawfully, all_lawful, all_parts, cases_differ}
use Rattle.lawful.proofs.ProcFlows.{all_pairs, at_first, params_long, procs_formed}
use Rattle.lawful.proofs.ProcPlaces.{procs_kept}
use Rattle.lawful.proofs.Results.{procs_there}
use Rattle.lawful.proofs.StmtFrames.{Body, Brought, Small, bound_typed, brought_parts, frame_in, over}
use Rattle.lawful.proofs.StmtTypes.{At, IsResult, block_typed}
use Rattle.lawful.proofs.Tables.{tied}
use Rattle.lawful.proofs.Within.{Within, small_fo, within}

-- # Expressions within the limits

term_small : (p : Prog) (e : Ex) → is_past Depth (ex_depth e) ≡ false → is_past Nodes (ex_nodes e) ≡ false → not (is_small_ex e) ≡ false
term_small p e deep large = ap not (and_from _ _ (not-false _ deep) (not-false _ large))

formula_small : (p : Prog) (f : Fo) → is_deep.of_formula f ≡ false → (binds_much p).of_formula f ≡ false → (is_large p).of_formula f ≡ false
    → not (is_small_fo p.cons f) ≡ false
formula_small p f deep binders large = ap not (small_fo p f deep binders large)

none_either : (a b : Bool) → a ≡ false → b ≡ false → (a || b) ≡ false
none_either true b e h = absurd cc
none_either false b e h = h

terms_small : (p : Prog) (es : Exs) → some_term is_deep es ≡ false → some_term (is_large p) es ≡ false → some_term (over p) es ≡ false
terms_small p no_ex deep large = refl
terms_small p (also_ex e es) deep large =
    let d = or_parts (is_deep.of_term e) (some_term is_deep es) deep in
    let l = or_parts ((is_large p).of_term e) (some_term (is_large p) es) large in
    none_either _ _ (term_small p e d.0 l.0) (terms_small p es d.1 l.1)

mutual
  one_small : (p : Prog) (s : St) → some_in is_deep s ≡ false → some_in (binds_much p) s ≡ false → some_in (is_large p) s ≡ false → some_in (over p) s ≡ false
  one_small p (Put at slot e) deep binders large = term_small p e deep large
  one_small p (Decide at slot f) deep binders large = formula_small p f deep binders large
  one_small p (New at slot n) deep binders large = refl
  one_small p (Operate at op args) deep binders large = terms_small p args deep large
  one_small p (If at f then_ else_) deep binders large =
      let d = or_parts _ _ deep in
      let b = or_parts _ _ binders in
      let l = or_parts _ _ large in
      let d_ = or_parts _ _ d.0 in
      let b_ = or_parts _ _ b.0 in
      let l_ = or_parts _ _ l.0 in
      none_either _ _ (none_either _ _ (formula_small p f d_.0 b_.0 l_.0) (all_small p then_ d_.1 b_.1 l_.1)) (all_small p else_ d.1 b.1 l.1)
  one_small p (Match at on arms) deep binders large =
      let d = or_parts _ _ deep in
      let l = or_parts _ _ large in
      none_either _ _ (term_small p on d.0 l.0) (arms_small p arms d.1 binders l.1)
  one_small p (Atomic at body) deep binders large = all_small p body deep binders large
  one_small p (Assert at f) deep binders large = formula_small p f deep binders large
  one_small p (Return at) deep binders large = refl
  one_small p (ReturnWith at e) deep binders large = term_small p e deep large

  all_small : (p : Prog) (sts : Sts) → some_in_all is_deep sts ≡ false → some_in_all (binds_much p) sts ≡ false → some_in_all (is_large p) sts ≡ false
      → some_in_all (over p) sts ≡ false
  all_small p no_st deep binders large = refl
  all_small p (also_st s sts) deep binders large =
      let d = or_parts _ _ deep in
      let b = or_parts _ _ binders in
      let l = or_parts _ _ large in
      none_either _ _ (one_small p s d.0 b.0 l.0) (all_small p sts d.1 b.1 l.1)

  arms_small : (p : Prog) (arms : StArms) → some_in_arms is_deep arms ≡ false → some_in_arms (binds_much p) arms ≡ false → some_in_arms (is_large p) arms ≡ false
      → some_in_arms (over p) arms ≡ false
  arms_small p no_st_arm deep binders large = refl
  arms_small p (also_st_arm con slots body rest) deep binders large =
      let d = or_parts _ _ deep in
      let b = or_parts _ _ binders in
      let l = or_parts _ _ large in
      none_either _ _ (all_small p body d.0 b.0 l.0) (arms_small p rest d.1 b.1 l.1)

procs_small : (p : Prog) (procs : List Proc) → list_any (λ (q : Proc). some_in_all is_deep q.body) procs ≡ false
    → list_any (λ (q : Proc). some_in_all (binds_much p) q.body) procs ≡ false
    → list_any (λ (q : Proc). some_in_all (is_large p) q.body) procs ≡ false → AllByRecursion (λ (q : Proc). Small p q.body) procs
procs_small p [] deep binders large = tt
procs_small p (q ∷ procs) deep binders large =
    let d = or_parts (some_in_all is_deep q.body) _ deep in
    let b = or_parts (some_in_all (binds_much p) q.body) _ binders in
    let l = or_parts (some_in_all (is_large p) q.body) _ large in
    (all_small p q.body d.0 b.0 l.0, procs_small p procs d.1 b.1 l.1)

bodies_small : (p : Prog) → Within p → AllByRecursion (λ (q : Proc). Small p q.body) p.procs
bodies_small p w = procs_small p p.procs (or_parts _ _ w.depth).1 (or_parts _ _ w.binders).1 (or_parts _ _ w.nodes).1

-- # Slots

front_at : (front tys : List Ty) (of : Ty) → slice_get (front ++ of ∷ tys) (length front) ≡ Some of
front_at [] tys of = refl
front_at (x ∷ front) tys of = front_at front tys of

all_brought : (t : Tables) (front : List Ty) (ks : List Kind) (tys slots : List Ty) → each (ty_of t) ks ≡ Some tys → slots ≡ front ++ tys
    → Brought t slots (length front) ks
all_brought t front [] tys slots are whole = tt
all_brought t front (k ∷ ks) tys slots are whole =
    both_there (λ z. slots ≡ front ++ z → Brought t slots (length front) (k ∷ ks)) ◌∷◌ (ty_of t k) (each (ty_of t) ks) tys are
    (λ of ofs i j is.
    let further : slots ≡ (front ++ of ∷ []) ++ ofs = is ∙ sym (append_assoc front (of ∷ []) ofs) in
    let long : length (front ++ of ∷ []) ≡ length front + 1 = length-append front (of ∷ []) in (
      (of, ap (λ z. slice_get z (length front)) is ∙ front_at front ofs of, i),
      subst (λ m. Brought t slots m ks) long (all_brought t (front ++ of ∷ []) ks ofs slots j further),
    ))
    whole

params_kinds : (n : Names) (params : List ParamTree) → slot_kinds (map param_name params) (param_kinds n params) ≡ param_kinds n params
params_kinds n [] = refl
params_kinds n (q ∷ params) = ap (λ ks. kind_of n (param_type q) ∷ ks) (params_kinds n params)

result_is : (t : Tables) (tree : Option TypeTree) (result : Option Ty) → result_ty t tree ≡ Some result → IsResult t (option_map (kind_of t.names) tree) result
result_is t None result e = sym (one e)
result_is t (Some ty) result e =
    map_there (λ z. IsResult t (Some (kind_of t.names ty)) z) Some (ty_of t (kind_of t.names ty)) result e (λ of is. (of, refl, is))

-- # Bodies

-- what holds of both lists, one with the other
pointwise_pairs : {X Y : Type 0} (R : X → Y → Type 0) (P : X → Type 0) (Q : Y → Type 0) (test : Y → Bool) (xs : List X) (ys : List Y) → Pointwise R xs ys
    → AllByRecursion P xs → AllByRecursion Q ys → ((x : X) (y : Y) → P x → Q y → R x y → test y ≡ true) → list_all test ys ≡ true
pointwise_pairs R P Q test xs ys no_members all also f = refl
pointwise_pairs R P Q test xs ys (more_members {x = x} {y = y} r rs) all also f =
    and_from (test y) _ (f x y all.0 also.0 r) (pointwise_pairs R P Q test _ _ rs all.1 also.1 f)

-- what is known of a procedure of the text
abbrev Facts : List DeclTree → ProcDecl → Type 0
Facts tree d =
    (FormedProc Lexable d.tree × AllByRecursion (Lawfully (names_of tree)) (proc_sites (names_of tree) d.decl d.tree))
    × AllKept (names_of tree) (may_speak tree) (proc_sites (names_of tree) d.decl d.tree)

body_is : (t : Tables) (w : Body t) (decl : ℕ) (at : Span) (tree : ProcTree) (q : Proc) → FormedProc Lexable tree
    → AllByRecursion (Lawfully t.names) (proc_sites t.names decl tree) → AllKept t.names w.words (proc_sites t.names decl tree)
    → IsProc t (record { decl = decl; at = at; tree = tree }) q → w.slots ≡ q.slots → w.result ≡ q.result → Small w.p q.body
    → are_stmts w.p (frame_in t w (at_start q).set (at_start q).fixed false) q.body ≡ true
body_is t w decl at (ProcTree.proc x params result body) q formed laws kept is slots result_ small =
    let n = t.names in
    let g = sight_for n params in
    let front = param_sites n decl role.Variable params ++ result_sites decl result in
    let here = block_sites n (frame_for n decl result) g body in
    let close = Site.closes (after_block n g body).live (is_there result) (brace_of body) in
    let laws_ = (all_parts (Lawfully n) front here (all_parts (Lawfully n) (front ++ here) (close ∷ []) laws).0).1 in
    let kept_ = (split n w.words front here (split n w.words (front ++ here) (close ∷ []) kept).0).1 in
    let xs = map param_name params in
    let ks = param_kinds n params in
    let all = all_brought t [] (ks ++ is.further) q.slots w.slots is.slots slots in
    let parts = brought_parts t w.slots 0 ks is.further all in
    let size : length ks ≡ length params = length-map params (λ (z : ParamTree). kind_of t.names (param_type z)) in
    let long : 0 + length ks ≡ length params = omega (arith, size) in
    let start : At t w (body_place n (record { decl = decl; at = at; tree = ProcTree.proc x params result body })) (frame_for n decl result) g
    (slotted [] 0 xs ks) (length params) (at_start q).set (at_start q).fixed = record {
      here = at_first t params (length q.params) (params_long t params q.params is.params);
      typed = bound_typed t w.slots 0 [] xs ks (subst (Brought t w.slots 0) (sym (params_kinds n params)) parts.0) tt;
      inside = refl;
      result = refl;
      gives = subst (IsResult t (option_map (kind_of n) result)) (sym result_) (result_is t result q.result is.result);
    } in
    block_typed t w decl _ _ _ body q.body is.further is.runs (frame_for n decl result) g formed.3 laws_ kept_ (at_start q).set (at_start q).fixed start
    (subst (λ m. Brought t w.slots m is.further) long parts.1) small

pub bodies_typed : (bytes : List ℕ) (tree : List DeclTree) → IsText bytes tree → (p : Prog) → HasProgram tree p → list_all (has_body p) p.procs ≡ true
bodies_typed bytes tree text p has =
    let is = has.0 in
    let t = tables_of tree in
    let n = names_of tree in
    let words = may_speak tree in
    let body : Proc → Body t = λ q. record {
      p = p;
      words = words;
      tied = tied bytes tree text p is;
      cases = cases_fit t p is.1.cons is.1.types (kinds_differ (bool_kind ∷ kinds_from n 0 0 tree)) (cases_differ tree is.0);
      ids = ids_fit t p is.1.types;
      slots = q.slots;
      result = q.result;
    } in
    let facts = all_pairs (λ (d : ProcDecl). FormedProc Lexable d.tree × AllByRecursion (Lawfully n) (proc_sites n d.decl d.tree))
    (λ (d : ProcDecl). AllKept n words (proc_sites n d.decl d.tree)) (procs_from 0 tree)
    (all_pairs (λ (d : ProcDecl). FormedProc Lexable d.tree) (λ (d : ProcDecl). AllByRecursion (Lawfully n) (proc_sites n d.decl d.tree)) (procs_from 0 tree)
    (procs_formed 0 tree (text_formed bytes tree text)) (procs_there (Lawfully n) n nothing_seen 0 tree (all_lawful tree is.0)))
    (procs_kept bytes tree text is.0) in
    pointwise_pairs (IsProc t) (Facts tree) (λ (q : Proc). Small p q.body) (has_body p) (procs_from 0 tree) p.procs is.1.procs facts
    (bodies_small p (within p has.1))
    (λ d q known small made. body_is t (body q) d.decl d.at d.tree q known.0.0 known.0.1 known.1 made refl refl small)
