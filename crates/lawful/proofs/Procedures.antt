-- The procedures of a lawful text whose program passes no limit are well formed.
use Rattle.std.proofs.Common.{◌≡◌, ℕ, zero, suc, true, ◌&&◌, List, [], ◌∷◌, ◌++◌, map, length, Option, Some, None, refl, subst}
use Rattle.std.specs.Prelude.{nat_le, option_map, slice_get}
use Rattle.std.specs.List.{AllByRecursion, list_all}
use Rattle.std.proofs.lemmas.Bool.{and_from, and_parts, eqb-true}
use Rattle.rp_span.specs.declared.Span.{Span}
use Rattle.rp_value.specs.declared.tables.Ty.{Ty}
use Rattle.rp_value.specs.declared.tables.ConDecl.{ConDecl}
use Rattle.rp_value.specs.declared.tables.TypeTable.{TypeTable}
use Rattle.rp_grammar.specs.Trees.{TypeTree, ParamTree, ProcTree, DeclTree}
use Rattle.rp_grammar.specs.Texts.{IsText}
use Rattle.rp_grammar.proofs.Formed.{FormedProc}
use Rattle.rp_grammar.proofs.FormedTexts.{Lexable, text_formed}
use Rattle.rp_lang.specs.Programs.{Proc, Prog}
use Rattle.rp_lang.specs.Sizes.{sts_count}
use Rattle.rp_lang.specs.Types.{are_ordinary, fields_in}
use Rattle.rp_lang.specs.WellFormed.{are_procs, at_start, begins, has_body, is_procedure, is_result, returns_a_value}
use Rattle.type_rules.specs.declared.kind.Kind.{Kind}
use Rattle.type_rules.specs.declared.role.Role.TheVariants as role
use Rattle.type_rules.specs.Names.{param_name, param_type}
use Rattle.type_rules.specs.Kinds.{kind_of, param_kinds}
use Rattle.type_rules.specs.Queries.{names_of}
use Rattle.type_rules.specs.Starts.{brace_of}
use Rattle.type_rules.specs.Sites.{Site}
use Rattle.type_rules.specs.Flow.{after_block}
use Rattle.type_rules.specs.StmtSites.{block_sites, is_there}
use Rattle.type_rules.specs.DeclSites.{declares_all, frame_for, named_all, param_sites, proc_sites, result_sites, sight_for, written_all}
use Rattle.type_rules.specs.TextSites.{nothing_seen}
use Rattle.desugaring.specs.Parts.{each}
use Rattle.desugaring.specs.Tables.{Tables, tables_of, ty_of}
use Rattle.desugaring.specs.Limits.{HasProgram}
use Rattle.desugaring.specs.Programs.{IsProc, IsProgramOf, ProcDecl, procs_from, result_ty}
use Rattle.desugaring.proofs.Options.{both_there, map_there}
use Rattle.lawful.proofs.Cons.{arm_is, arm_many_is}
use Rattle.lawful.proofs.DataFields.{fields_ordinary}
use Rattle.lawful.proofs.Forms.{one}
use Rattle.lawful.proofs.Places.{Lawfully, all_both, all_lawful, all_parts}
use Rattle.lawful.proofs.ProcFlows.{all_pairs, at_first, params_long, procs_formed}
use Rattle.lawful.proofs.ProcHeads.{proc_heads}
use Rattle.lawful.proofs.ProcTypes.{bodies_typed}
use Rattle.lawful.proofs.Results.{pointwise_all, procs_there}
use Rattle.lawful.proofs.SlotTypes.{AllOrdinary, IsOrdinary, Tabled, block_slots, written_ordinary}

-- # The tables

at_con : (types : TypeTable) (cs : List ConDecl) (con : ℕ) → list_all (λ (d : ConDecl). are_ordinary types d.fields) cs ≡ true
    → are_ordinary types (fields_in (slice_get cs con)) ≡ true
at_con types [] con all = refl
at_con types (d ∷ cs) zero all = (and_parts (are_ordinary types d.fields) _ all).0
at_con types (d ∷ cs) (suc con) all = at_con types cs con (and_parts (are_ordinary types d.fields) _ all).1

tabled : (tree : List DeclTree) (p : Prog) → IsProgramOf tree p → Tabled (tables_of tree) p
tabled tree p is =
    let t = tables_of tree in
    record {
      types = is.1.types;
      fields = λ con. at_con p.types p.cons.cons con (fields_ordinary tree p is);
      arm = λ k q con found. (arm_is t p is.1.cons k q con found).fields;
      arm_many = λ k q con found. eqb-true _ _ (arm_many_is t p is.1.cons k q con found);
    }

-- # Slots and results

tys_there : (t : Tables) (p : Prog) (ks : List Kind) (tys : List Ty) → AllOrdinary t p ks → each (ty_of t) ks ≡ Some tys → are_ordinary p.types tys ≡ true
tys_there t p [] tys all e = subst (λ z. are_ordinary p.types z ≡ true) (one e) refl
tys_there t p (k ∷ ks) tys all e =
    both_there (λ z. are_ordinary p.types z ≡ true) ◌∷◌ (ty_of t k) (each (ty_of t) ks) tys e
    (λ of ofs i j. and_from _ _ (all.0 of i) (tys_there t p ks ofs all.1 j))

params_ordinary : (t : Tables) (p : Prog) → Tabled t p → (decl : ℕ) (params : List ParamTree)
    → AllByRecursion (Lawfully t.names) (written_all decl role.Variable params) → AllOrdinary t p (param_kinds t.names params)
params_ordinary t p is decl [] laws = tt
params_ordinary t p is decl (q ∷ params) laws =
    (written_ordinary t p is.types decl (param_type q) laws.0, params_ordinary t p is decl params laws.1)

result_ordinary : (t : Tables) (p : Prog) → Tabled t p → (decl : ℕ) (result : Option TypeTree) → AllByRecursion (Lawfully t.names) (result_sites decl result)
    → (k : Kind) → option_map (kind_of t.names) result ≡ Some k → IsOrdinary t p k
result_ordinary t p is decl None laws k e = absurd cc
result_ordinary t p is decl (Some ty) laws k e = subst (IsOrdinary t p) (one e) (written_ordinary t p is.types decl ty laws.0)

result_there : (t : Tables) (p : Prog) → Tabled t p → (decl : ℕ) (result : Option TypeTree) (made : Option Ty)
    → AllByRecursion (Lawfully t.names) (result_sites decl result) → result_ty t result ≡ Some made → is_result p.types made ≡ true
result_there t p is decl None made laws e = subst (λ z. is_result p.types z ≡ true) (one e) refl
result_there t p is decl (Some ty) made laws e =
    map_there (λ z. is_result p.types z ≡ true) Some (ty_of t (kind_of t.names ty)) made e (λ of i. written_ordinary t p is.types decl ty laws.0 of i)

of_data : (t : Tables) (p : Prog) → Tabled t p → (decl : ℕ) (at : Span) (tree : ProcTree) (q : Proc) → FormedProc Lexable tree
    → AllByRecursion (Lawfully t.names) (proc_sites t.names decl tree) → IsProc t (record { decl = decl; at = at; tree = tree }) q
    → (are_ordinary p.types q.slots && is_result p.types q.result) ≡ true
of_data t p is decl at (ProcTree.proc x params result body) q formed laws made =
    let n = t.names in
    let g = sight_for n params in
    let own = param_sites n decl role.Variable params in
    let front = own ++ result_sites decl result in
    let here = block_sites n (frame_for n decl result) g body in
    let close = Site.closes (after_block n g body).live (is_there result) (brace_of body) in
    let whole = all_parts (Lawfully n) front here (all_parts (Lawfully n) (front ++ here) (close ∷ []) laws).0 in
    let heads = all_parts (Lawfully n) own (result_sites decl result) whole.0 in
    let names = named_all [] (map param_name params) ++ declares_all n [] params in
    let written = (all_parts (Lawfully n) names (written_all decl role.Variable params) heads.0).1 in
    let further = block_slots t p is decl _ (result_ordinary t p is decl result heads.1) _ _ body q.body made.further made.runs (frame_for n decl result) g formed.3
    whole.1 (at_start q).set (at_start q).fixed (at_first t params (length q.params) (params_long t params q.params made.params)) in
    let kinds = param_kinds n params in
    and_from _ _
    (tys_there t p (kinds ++ made.further) q.slots (all_both (IsOrdinary t p) kinds made.further (params_ordinary t p is decl params written) further) made.slots)
    (result_there t p is decl result q.result heads.1 made.result)

-- # Procedures

of_parts : (p : Prog) (procs : List Proc)
    → list_all (λ (q : Proc). begins q.params q.slots && nat_le (sts_count q.body) 200 && returns_a_value q) procs ≡ true
    → list_all (λ (q : Proc). are_ordinary p.types q.slots && is_result p.types q.result) procs ≡ true → list_all (has_body p) procs ≡ true
    → list_all (is_procedure p) procs ≡ true
of_parts p [] heads data_ bodies = refl
of_parts p (q ∷ procs) heads data_ bodies =
    let h = and_parts (begins q.params q.slots && nat_le (sts_count q.body) 200 && returns_a_value q) _ heads in
    let front = and_parts (begins q.params q.slots && nat_le (sts_count q.body) 200) (returns_a_value q) h.0 in
    let first = and_parts (begins q.params q.slots) (nat_le (sts_count q.body) 200) front.0 in
    let d = and_parts (are_ordinary p.types q.slots && is_result p.types q.result) _ data_ in
    let of = and_parts (are_ordinary p.types q.slots) (is_result p.types q.result) d.0 in
    let b = and_parts (has_body p q) _ bodies in
    and_from (is_procedure p q) _
    (and_from _ _ (and_from _ _ (and_from _ _ (and_from _ _ (and_from _ _ first.0 of.0) of.1) first.1) b.0) front.1) (of_parts p procs h.1 d.1 b.1)

pub procs_well_formed : (bytes : List ℕ) (tree : List DeclTree) → IsText bytes tree → (p : Prog) → HasProgram tree p → are_procs p ≡ true
procs_well_formed bytes tree text p has =
    let is = has.0 in
    let t = tables_of tree in
    let n = names_of tree in
    let facts = all_pairs (λ (d : ProcDecl). FormedProc Lexable d.tree) (λ (d : ProcDecl). AllByRecursion (Lawfully n) (proc_sites n d.decl d.tree)) (procs_from 0 tree)
    (procs_formed 0 tree (text_formed bytes tree text)) (procs_there (Lawfully n) n nothing_seen 0 tree (all_lawful tree is.0)) in
    let heads = and_parts (nat_le (length p.procs) 64) _ (proc_heads tree p has) in
    let data_ = pointwise_all (IsProc t) (λ (d : ProcDecl). FormedProc Lexable d.tree × AllByRecursion (Lawfully n) (proc_sites n d.decl d.tree))
    (λ (q : Proc). are_ordinary p.types q.slots && is_result p.types q.result) (procs_from 0 tree) p.procs is.1.procs facts
    (λ d q known made. of_data t p (tabled tree p is) d.decl d.at d.tree q known.0 known.1 made) in
    and_from (nat_le (length p.procs) 64) _ heads.0 (of_parts p p.procs heads.1 data_ (bodies_typed bytes tree text p has))
