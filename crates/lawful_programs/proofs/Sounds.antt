-- The places of each declaration of a lawful text are sound.
use Rattle.std.proofs.Common.{◌≡◌, ◌+◌, ℕ, Bool, true, List, [], ◌∷◌, ◌++◌, map, Option, Some, None, refl, ap, subst, sym, ◌∙◌, arith, inr}
use Rattle.std.specs.Prelude.{slice_get, flat_map}
use Rattle.std.specs.List.{AllByRecursion}
use Rattle.std.proofs.lemmas.Grind.{flat_map-append}
use Rattle.rp_span.specs.declared.Span.{Span}
use Rattle.rp_grammar.specs.Trees.{Ident, TypeTree, ParamTree, ExprTree, QueryTree, ProcTree, DeclForm, DeclTree}
use Rattle.type_rules.specs.declared.kind.Kind.{Kind}
use Rattle.type_rules.specs.declared.role.Role.{Role}
use Rattle.type_rules.specs.declared.role.Role.TheVariants as role
use Rattle.type_rules.specs.Names.{Names, param_name, param_type}
use Rattle.type_rules.specs.Kinds.{bool_kind, kind_of, param_kinds}
use Rattle.type_rules.specs.Accesses.{proc_params, proc_result, result_args}
use Rattle.type_rules.specs.Queries.{names_of}
use Rattle.type_rules.specs.Sites.{Site}
use Rattle.type_rules.specs.ExprSites.{asks, expr_sites}
use Rattle.type_rules.specs.Flow.{after_block}
use Rattle.type_rules.specs.StmtSites.{block_sites, is_there}
use Rattle.type_rules.specs.Starts.{brace_of}
use Rattle.type_rules.specs.DeclSites.{declares_all, frame_for, invariant_sites, named_all, param_sites, proc_sites, query_sites, result_sites, scope_for, sight_for, written_all}
use Rattle.type_rules.specs.TextSites.{nothing_seen}
use Rattle.type_rules.specs.Faults.{IsOneOf, IsLawful}
use Rattle.desugaring.specs.Appearances.{decl_kinds, kinds_from, site_kinds}
use Rattle.desugaring.specs.Tables.{Tables, tables_of}
use Rattle.desugaring.specs.Programs.{ProcDecl, procs_from}
use Rattle.lawful.specs.Kept.{may_speak}
use Rattle.lawful.proofs.Behind.{inner_there, query_there}
use Rattle.lawful.proofs.Distinct.{all_changed}
use Rattle.lawful.proofs.Listed.{in_once}
use Rattle.lawful.proofs.Ordinary.{same_kinds}
use Rattle.lawful.proofs.Places.{Lawfully, all_lawful, all_parts}
use Rattle.lawful.proofs.ProcFlows.{all_pairs}
use Rattle.lawful.proofs.ProcPlaces.{LawsOf, StandsIn, procs_stand}
use Rattle.lawful.proofs.Results.{procs_there}
use Rattle.lawful.proofs.Speaking.{spoken}
use Rattle.lawful.proofs.WrittenTypes.{appears}
use Rattle.lawful_programs.specs.Valued.{IsNumbered, Sound, AllSound, AllWhole}
use Rattle.lawful_programs.proofs.Wholes.{written_whole}
use Rattle.lawful_programs.proofs.Bases.{Within, within_left, within_right}

-- # Lists of places

pub each_numbered : (t : Tables) (ss : List Site) → Within t (flat_map (site_kinds t.names) ss) → AllByRecursion (IsNumbered t) ss
each_numbered t [] all = tt
each_numbered t (s ∷ ss) all =
    let own = site_kinds t.names s in
    let rest = flat_map (site_kinds t.names) ss in
    (within_left t own rest all, each_numbered t ss (within_right t own rest all))

pub all_sound : (t : Tables) (ss : List Site) → AllByRecursion (Lawfully t.names) ss → AllByRecursion (IsNumbered t) ss → AllSound t ss
all_sound t [] laws numbered = tt
all_sound t (s ∷ ss) laws numbered = ((laws.0, numbered.0), all_sound t ss laws.1 numbered.1)

-- # Declarations

-- the datatypes that a declaration speaks of
pub decl_within : (tree : List DeclTree) (m : ℕ) (at : Span) (form : DeclForm) (ks : List Kind) → slice_get tree m ≡ Some (DeclTree.node at form)
    → ((before : ℕ) → decl_kinds (names_of tree) m before form ≡ ks) → Within (tables_of tree) ks
decl_within tree m at form ks there is c among =
    let n = names_of tree in
    let number : 0 + m ≡ m = omega arith in
    in_once c (bool_kind ∷ kinds_from n 0 0 tree) (inr (appears n 0 0 tree m m at form c number there (λ before. subst (IsOneOf c) (sym (is before)) among)))

pub query_kinds : (n : Names) (m : ℕ) (words : Bool) (q : QueryTree) → flat_map (site_kinds n) (query_sites n m words q) ≡ flat_map (site_kinds n) (query_sites n m true q)
query_kinds n m words (QueryTree.query x params result body) =
    let front = param_sites n m role.QueryParam params in
    let own = Site.written m role.QueryResult result in
    let sites = expr_sites n (scope_for n m words params) (asks 21 (kind_of n result)) body in
    let there = expr_sites n (scope_for n m true params) (asks 21 (kind_of n result)) body in
    let same : flat_map (site_kinds n) there ≡ flat_map (site_kinds n) sites =
    sym (ap (flat_map (site_kinds n)) (spoken n (scope_for n m words params) (asks 21 (kind_of n result)) body)) ∙ same_kinds n sites in
    flat_map-append (site_kinds n) front (own ∷ sites)
    ∙ ap (λ z. flat_map (site_kinds n) front ++ (site_kinds n own ++ z)) (sym same)
    ∙ sym (flat_map-append (site_kinds n) front (own ∷ there))

pub query_sound : (tree : List DeclTree) → IsLawful tree → (m : ℕ) (at : Span) (q : QueryTree) → slice_get tree m ≡ Some (DeclTree.node at (DeclForm.query q))
    → AllSound (tables_of tree) (query_sites (names_of tree) m (may_speak tree m) q)
query_sound tree lawful m at q there =
    let n = names_of tree in
    let sites = query_sites n m (may_speak tree m) q in
    let within = decl_within tree m at (DeclForm.query q) (flat_map (site_kinds n) sites) there (λ before. sym (query_kinds n m (may_speak tree m) q)) in
    all_sound (tables_of tree) sites (query_there (Lawfully n) tree (all_lawful tree lawful) m at q there) (each_numbered (tables_of tree) sites within)

pub invariant_sound : (tree : List DeclTree) → IsLawful tree → (m : ℕ) (at : Span) (x : Option Ident) (e : ExprTree)
    → slice_get tree m ≡ Some (DeclTree.node at (DeclForm.invariant x e)) → AllSound (tables_of tree) (invariant_sites (names_of tree) m e)
invariant_sound tree lawful m at x e there =
    let n = names_of tree in
    let sites = invariant_sites n m e in
    let number : 0 + m ≡ m = omega arith in
    all_sound (tables_of tree) sites (inner_there (Lawfully n) n nothing_seen 0 tree (all_lawful tree lawful) m m at (DeclForm.invariant x e) number there)
    (each_numbered (tables_of tree) sites (decl_within tree m at (DeclForm.invariant x e) (flat_map (site_kinds n) sites) there (λ before. refl)))

abbrev pub ProcSound : List DeclTree → ProcDecl → Type 0
ProcSound tree d = AllSound (tables_of tree) (proc_sites (names_of tree) d.decl d.tree)

proc_sound : (tree : List DeclTree) (d : ProcDecl) → LawsOf (names_of tree) d → StandsIn 0 tree d → ProcSound tree d
proc_sound tree d laws stands =
    let n = names_of tree in
    let place : stands.0 ≡ d.decl = omega (arith, stands.1) in
    let there = subst (λ i. slice_get tree i ≡ Some (DeclTree.node d.at (DeclForm.proc d.tree))) place stands.2 in
    let sites = proc_sites n d.decl d.tree in
    all_sound (tables_of tree) sites laws
    (each_numbered (tables_of tree) sites (decl_within tree d.decl d.at (DeclForm.proc d.tree) (flat_map (site_kinds n) sites) there (λ before. refl)))

pub procs_sound : (tree : List DeclTree) → IsLawful tree → AllByRecursion (ProcSound tree) (procs_from 0 tree)
procs_sound tree lawful =
    let n = names_of tree in
    let laws = procs_there (Lawfully n) n nothing_seen 0 tree (all_lawful tree lawful) in
    let all = all_pairs (LawsOf n) (StandsIn 0 tree) (procs_from 0 tree) laws (procs_stand 0 tree) in
    all_changed (λ d. LawsOf n d × StandsIn 0 tree d) (ProcSound tree) (procs_from 0 tree) (λ d h. proc_sound tree d h.0 h.1) all

-- # Parameters and results

pub params_whole : (t : Tables) → IsOneOf bool_kind t.datatypes → (k : ℕ) (r : Role) (params : List ParamTree) → AllSound t (written_all k r params)
    → AllWhole t (param_kinds t.names params)
params_whole t bool k r [] sound = tt
params_whole t bool k r (q ∷ params) sound = (written_whole t bool k r (param_type q) sound.0, params_whole t bool k r params sound.1)

pub param_sites_whole : (t : Tables) → IsOneOf bool_kind t.datatypes → (k : ℕ) (r : Role) (params : List ParamTree) → AllSound t (param_sites t.names k r params)
    → AllWhole t (param_kinds t.names params)
param_sites_whole t bool k r params sound =
    let names = named_all [] (map param_name params) ++ declares_all t.names [] params in
    params_whole t bool k r params (all_parts (Sound t) names (written_all k r params) sound).1

pub result_whole : (t : Tables) → IsOneOf bool_kind t.datatypes → (k : ℕ) (result : Option TypeTree) → AllSound t (result_sites k result)
    → AllWhole t (result_args t.names result)
result_whole t bool k None sound = tt
result_whole t bool k (Some ty) sound = (written_whole t bool k role.Variable ty sound.0, tt)

pub record ProcHead (t : Tables) (q : ProcTree) : Type 0 where
  pub params : AllWhole t (param_kinds t.names (proc_params q))
  pub result : AllWhole t (result_args t.names (proc_result q))

pub proc_head : (t : Tables) → IsOneOf bool_kind t.datatypes → (k : ℕ) (q : ProcTree) → AllSound t (proc_sites t.names k q) → ProcHead t q
proc_head t bool k (ProcTree.proc x params result body) sound =
    let n = t.names in
    let own = param_sites n k role.Variable params in
    let front = own ++ result_sites k result in
    let here = block_sites n (frame_for n k result) (sight_for n params) body in
    let close = Site.closes (after_block n (sight_for n params) body).live (is_there result) (brace_of body) in
    let whole = all_parts (Sound t) front here (all_parts (Sound t) (front ++ here) (close ∷ []) sound).0 in
    let heads = all_parts (Sound t) own (result_sites k result) whole.0 in
    record { params = param_sites_whole t bool k role.Variable params heads.0; result = result_whole t bool k result heads.1 }
