-- The flow of values through a procedure.
use Rattle.std.proofs.Common.{◌≡◌, ◌+◌, ℕ, Bool, List, [], ◌∷◌, ◌++◌, map, length, Some, refl, subst, sym, ◌∙◌, arith}
use Rattle.std.specs.Prelude.{nat_lt}
use Rattle.std.specs.List.{AllByRecursion}
use Rattle.std.proofs.lemmas.Bool.{le-ltb, lt-ltb, or_right, true≢false}
use Rattle.std.proofs.lemmas.List.{append-nil, append_assoc, length-map}
use Rattle.rp_span.specs.declared.Span.{Span}
use Rattle.rp_value.specs.declared.tables.Ty.{Ty}
use Rattle.rp_grammar.specs.Trees.{ParamTree, ProcTree, DeclForm, DeclTree}
use Rattle.rp_grammar.specs.Texts.{IsText}
use Rattle.rp_lang.specs.Flow.{all_set}
use Rattle.rp_lang.specs.Programs.{Proc, Prog}
use Rattle.rp_lang.specs.WellFormed.{at_start}
use Rattle.rp_grammar.proofs.Formed.{FormedProc, FormedDecls}
use Rattle.rp_grammar.proofs.FormedTexts.{Lexable, text_formed}
use Rattle.type_rules.specs.declared.kind.Kind.{Kind}
use Rattle.type_rules.specs.declared.role.Role.TheVariants as role
use Rattle.type_rules.specs.Names.{Names, param_name, param_type}
use Rattle.type_rules.specs.Kinds.{kind_of, param_kinds}
use Rattle.type_rules.specs.Starts.{brace_of}
use Rattle.type_rules.specs.Accesses.{Var}
use Rattle.type_rules.specs.Queries.{names_of, param_var, param_vars}
use Rattle.type_rules.specs.Sites.{Site}
use Rattle.type_rules.specs.Matches.{with_bound}
use Rattle.type_rules.specs.Flow.{after_block}
use Rattle.type_rules.specs.StmtSites.{block_sites, is_there}
use Rattle.type_rules.specs.DeclSites.{param_sites, result_sites, frame_for, sight_for, proc_sites}
use Rattle.type_rules.specs.TextSites.{nothing_seen}
use Rattle.desugaring.specs.Parts.{each, Pointwise, no_members, more_members}
use Rattle.desugaring.specs.Tables.{Tables, tables_of, ty_of}
use Rattle.desugaring.specs.Statements.{slotted}
use Rattle.desugaring.specs.Programs.{ProcDecl, procs_from, IsProc, IsProgramOf}
use Rattle.desugaring.proofs.Options.{each_there}
use Rattle.lawful.specs.Slots.{InSlots, nothing, FlowsThrough}
use Rattle.lawful.proofs.Places.{Lawfully, all_parts, all_lawful}
use Rattle.lawful.proofs.Ends.{block_dies}
use Rattle.lawful.proofs.Results.{ended, procs_there}
use Rattle.lawful.proofs.Slotted.{Slotted, slots_bound, bound_slotted}
use Rattle.lawful.proofs.Flows.{Here, block_flow}

-- # What holds of each procedure

pub pointwise_also : {X Y : Type 0} (R S : X → Y → Type 0) (P : X → Type 0) (xs : List X) (ys : List Y) → Pointwise R xs ys → AllByRecursion P xs
    → ((x : X) (y : Y) → P x → R x y → S x y) → Pointwise S xs ys
pointwise_also R S P xs ys no_members all f = no_members
pointwise_also R S P xs ys (more_members {x = x} {y = y} r rs) all f = more_members (f x y all.0 r) (pointwise_also R S P _ _ rs all.1 f)

pub all_pairs : {X : Type 0} (P Q : X → Type 0) (xs : List X) → AllByRecursion P xs → AllByRecursion Q xs → AllByRecursion (λ x. P x × Q x) xs
all_pairs P Q [] all also = tt
all_pairs P Q (x ∷ xs) all also = ((all.0, also.0), all_pairs P Q xs all.1 also.1)

pub procs_formed : (k : ℕ) (ds : List DeclTree) → FormedDecls Lexable ds → AllByRecursion (λ (d : ProcDecl). FormedProc Lexable d.tree) (procs_from k ds)
procs_formed k [] h = tt
procs_formed k (DeclTree.node at (DeclForm.proc q) ∷ ds) h = (h.0, procs_formed (k + 1) ds h.1)
procs_formed k (DeclTree.node at (DeclForm.id_type x) ∷ ds) h = procs_formed (k + 1) ds h.1
procs_formed k (DeclTree.node at (DeclForm.opaque x) ∷ ds) h = procs_formed (k + 1) ds h.1
procs_formed k (DeclTree.node at (DeclForm.datatype x cons) ∷ ds) h = procs_formed (k + 1) ds h.1
procs_formed k (DeclTree.node at (DeclForm.crdt x c) ∷ ds) h = procs_formed (k + 1) ds h.1
procs_formed k (DeclTree.node at (DeclForm.query q) ∷ ds) h = procs_formed (k + 1) ds h.1
procs_formed k (DeclTree.node at (DeclForm.invariant x e) ∷ ds) h = procs_formed (k + 1) ds h.1

pointwise_long : {X Y : Type 0} (R : X → Y → Type 0) (xs : List X) (ys : List Y) → Pointwise R xs ys → length xs ≡ length ys
pointwise_long R xs ys no_members = refl
pointwise_long R xs ys (more_members {xs = rest} {ys = others} r rs) = let same = pointwise_long R rest others rs in omega (arith, same)

abbrev Nothing : Kind → Ty → Type 0
Nothing k ty = Unit {0}

pub params_long : (t : Tables) (params : List ParamTree) (tys : List Ty) → each (ty_of t) (param_kinds t.names params) ≡ Some tys → length params ≡ length tys
params_long t params tys are =
    sym (length-map params (λ p. kind_of t.names (param_type p)))
    ∙ pointwise_long Nothing (param_kinds t.names params) tys (each_there Nothing (ty_of t) (λ k ty e. tt) (param_kinds t.names params) tys are)

-- # At the start

bound_is : (n : Names) (vs : List Var) (params : List ParamTree) → with_bound vs (map param_name params) (param_kinds n params) ≡ vs ++ param_vars n params
bound_is n vs [] = sym (append-nil vs)
bound_is n vs (p ∷ params) =
    bound_is n (vs ++ param_var n p ∷ []) params ∙ append_assoc vs (param_var n p ∷ []) (param_vars n params)

pub at_first : (t : Tables) (params : List ParamTree) (many : ℕ) → length params ≡ many
    → Here (λ s. nat_lt s many) (λ s. nat_lt s many) (sight_for t.names params) (slotted [] 0 (map param_name params) (param_kinds t.names params)) (length params)
at_first t params many same =
    let n = t.names in
    let test : ℕ → Bool = λ s. nat_lt s many in
    let xs = map param_name params in
    let ks = param_kinds n params in
    let size : length xs ≡ length params = length-map params param_name in
    let whole : 0 + length xs ≡ length params = omega (arith, size) in
    record {
      slots = subst (λ vs. InSlots test test vs (slotted [] 0 xs ks)) (bound_is n [] params)
          (slots_bound test test [] [] 0 xs ks (λ s least less. lt-ltb s many (omega (arith, less, size, same))) nothing);
      dead = λ none. absurd (true≢false none);
      below = subst (λ m. Slotted m (slotted [] 0 xs ks)) whole (bound_slotted [] 0 xs ks tt);
      free = λ s least. le-ltb s many (omega (arith, least, same));
    }

-- # Through the body

through_body : (t : Tables) (decl : ℕ) (at : Span) (tree : ProcTree) (q : Proc)
    → FormedProc Lexable tree × AllByRecursion (Lawfully t.names) (proc_sites t.names decl tree) → IsProc t (record { decl = decl; at = at; tree = tree }) q
    → FlowsThrough t.names (record { decl = decl; at = at; tree = tree }) q
through_body t decl at (ProcTree.proc x params result body) q facts is =
    let n = t.names in
    let g = sight_for n params in
    let front = param_sites n decl role.Variable params ++ result_sites decl result in
    let here = block_sites n (frame_for n decl result) g body in
    let close = Site.closes (after_block n g body).live (is_there result) (brace_of body) in
    let laws = (all_parts (Lawfully n) front here (all_parts (Lawfully n) (front ++ here) (close ∷ []) facts.1).0).1 in
    let start = at_first t params (length q.params) (params_long t params q.params is.params) in
    record {
      slots = block_flow t decl _ _ _ body q.body _ is.runs (frame_for n decl result) g facts.0.3 laws (at_start q).set (at_start q).fixed start;
      dead = λ none s. or_right ((at_start q).set s) (all_set s q.body) ((ended g q.body refl (block_dies t decl _ _ _ body q.body _ is.runs g none)).0 s);
    }

pub flows_through : (bytes : List ℕ) (tree : List DeclTree) → IsText bytes tree → (p : Prog) → IsProgramOf tree p
    → Pointwise (FlowsThrough (names_of tree)) (procs_from 0 tree) p.procs
flows_through bytes tree text p is =
    let t = tables_of tree in
    let n = names_of tree in
    pointwise_also (IsProc t) (FlowsThrough n) (λ (d : ProcDecl). FormedProc Lexable d.tree × AllByRecursion (Lawfully n) (proc_sites n d.decl d.tree)) (procs_from 0 tree) p.procs is.1.procs
    (all_pairs (λ (d : ProcDecl). FormedProc Lexable d.tree) (λ (d : ProcDecl). AllByRecursion (Lawfully n) (proc_sites n d.decl d.tree)) (procs_from 0 tree)
    (procs_formed 0 tree (text_formed bytes tree text)) (procs_there (Lawfully n) n nothing_seen 0 tree (all_lawful tree is.0)))
    (λ d q facts made. through_body t d.decl d.at d.tree q facts made)
