-- A procedure with a result returns on every path.
use Rattle.std.proofs.Common.{◌≡◌, ◌+◌, ℕ, Bool, true, false, ◌&&◌, List, [], ◌∷◌, ◌++◌, Option, Some, None, refl, ap, sym, ◌∙◌, inl, inr}
use Rattle.std.specs.Prelude.{is_none}
use Rattle.std.specs.List.{AllByRecursion, list_all}
use Rattle.std.proofs.lemmas.Bool.{and_from, or_left, or_right, true≢false}
use Rattle.rp_span.specs.declared.Span.{Span}
use Rattle.rp_grammar.specs.Trees.{Ident, TypeTree, ParamTree, BlockTree, ProcTree, DeclForm, DeclTree}
use Rattle.rp_lang.specs.Stmts.{Sts}
use Rattle.rp_lang.specs.Flow.{all_return}
use Rattle.rp_lang.specs.Programs.{Proc, Prog}
use Rattle.rp_lang.specs.WellFormed.{returns_a_value}
use Rattle.type_rules.specs.declared.role.Role.TheVariants as role
use Rattle.type_rules.specs.Names.{Names}
use Rattle.type_rules.specs.Starts.{brace_of}
use Rattle.type_rules.specs.Queries.{names_of}
use Rattle.type_rules.specs.Sites.{Site}
use Rattle.type_rules.specs.Flow.{Sight, after_block}
use Rattle.type_rules.specs.StmtSites.{block_sites, is_there}
use Rattle.type_rules.specs.DeclSites.{param_sites, result_sites, frame_for, sight_for, proc_sites}
use Rattle.type_rules.specs.TextSites.{Seen, nothing_seen, with_decl, decl_sites}
use Rattle.type_rules.specs.Rules.{rules, rule, rule20}
use Rattle.desugaring.specs.Parts.{Pointwise, no_members, more_members}
use Rattle.desugaring.specs.Tables.{Tables, tables_of}
use Rattle.desugaring.specs.Programs.{ProcDecl, procs_from, IsProc, IsProgramOf}
use Rattle.lawful.proofs.Basics.{when_not}
use Rattle.lawful.proofs.Forms.{one}
use Rattle.lawful.proofs.Places.{Lawfully, all_parts, all_lawful, is_one_of}
use Rattle.lawful.proofs.Behind.{decl_parts}
use Rattle.lawful.proofs.Ends.{Dies, Ends, block_dies}

-- # The procedures of a text, and what they became

pub pointwise_all : {X Y : Type 0} (R : X → Y → Type 0) (P : X → Type 0) (test : Y → Bool) (xs : List X) (ys : List Y) → Pointwise R xs ys
    → AllByRecursion P xs → ((x : X) (y : Y) → P x → R x y → test y ≡ true) → list_all test ys ≡ true
pointwise_all R P test xs ys no_members all f = refl
pointwise_all R P test xs ys (more_members {x = x} {y = y} r rs) all f =
    and_from (test y) _ (f x y all.0 r) (pointwise_all R P test _ _ rs all.1 f)

-- what holds at all places of a text holds at those of each procedure
pub procs_there : (P : Site → Type 0) (n : Names) (seen : Seen) (k : ℕ) (ds : List DeclTree) → AllByRecursion P (decl_sites n seen k ds)
    → AllByRecursion (λ (d : ProcDecl). AllByRecursion P (proc_sites n d.decl d.tree)) (procs_from k ds)
procs_there P n seen k [] all = tt
procs_there P n seen k (DeclTree.node at (DeclForm.proc q) ∷ ds) all =
    let p = decl_parts P n seen k at (DeclForm.proc q) ds all in (p.0, procs_there P n (with_decl seen (DeclForm.proc q)) (k + 1) ds p.1)
procs_there P n seen k (DeclTree.node at (DeclForm.id_type x) ∷ ds) all =
    procs_there P n (with_decl seen (DeclForm.id_type x)) (k + 1) ds (decl_parts P n seen k at (DeclForm.id_type x) ds all).1
procs_there P n seen k (DeclTree.node at (DeclForm.opaque x) ∷ ds) all =
    procs_there P n (with_decl seen (DeclForm.opaque x)) (k + 1) ds (decl_parts P n seen k at (DeclForm.opaque x) ds all).1
procs_there P n seen k (DeclTree.node at (DeclForm.datatype x cons) ∷ ds) all =
    procs_there P n (with_decl seen (DeclForm.datatype x cons)) (k + 1) ds (decl_parts P n seen k at (DeclForm.datatype x cons) ds all).1
procs_there P n seen k (DeclTree.node at (DeclForm.crdt x c) ∷ ds) all =
    procs_there P n (with_decl seen (DeclForm.crdt x c)) (k + 1) ds (decl_parts P n seen k at (DeclForm.crdt x c) ds all).1
procs_there P n seen k (DeclTree.node at (DeclForm.query q) ∷ ds) all =
    procs_there P n (with_decl seen (DeclForm.query q)) (k + 1) ds (decl_parts P n seen k at (DeclForm.query q) ds all).1
procs_there P n seen k (DeclTree.node at (DeclForm.invariant x e) ∷ ds) all =
    procs_there P n (with_decl seen (DeclForm.invariant x e)) (k + 1) ds (decl_parts P n seen k at (DeclForm.invariant x e) ds all).1

-- # Results

-- some path came to the statements
pub ended : (g : Sight) (sts : Sts) → g.live ≡ true → Dies g sts → Ends sts
ended g sts live (inl none) = absurd (true≢false (sym live ∙ none))
ended g sts live (inr ends) = ends

not_live : (live : Bool) → (live && true) ≡ false → live ≡ false
not_live true e = absurd cc
not_live false e = refl

by_result : (t : Tables) (decl : ℕ) (at : Span) (x : Ident) (params : List ParamTree) (result : Option TypeTree) (body : BlockTree) (q : Proc)
    → ((after_block t.names (sight_for t.names params) body).live && is_there result) ≡ false
    → IsProc t (record { decl = decl; at = at; tree = ProcTree.proc x params result body }) q → returns_a_value q ≡ true
by_result t decl at x params None body q law is =
    or_left (is_none q.result) (all_return q.body) (ap is_none (sym (one is.result)))
by_result t decl at x params (Some ty) body q law is =
    let g = sight_for t.names params in
    let dead = not_live (after_block t.names g body).live law in
    let dies = block_dies t decl _ _ _ body q.body _ is.runs g dead in
    or_right (is_none q.result) (all_return q.body) (ended g q.body refl dies).1

by_tree : (t : Tables) (decl : ℕ) (at : Span) (tree : ProcTree) (q : Proc) → AllByRecursion (Lawfully t.names) (proc_sites t.names decl tree)
    → IsProc t (record { decl = decl; at = at; tree = tree }) q → returns_a_value q ≡ true
by_tree t decl at (ProcTree.proc x params result body) q laws is =
    let n = t.names in
    let g = sight_for n params in
    let front = param_sites n decl role.Variable params ++ result_sites decl result ++ block_sites n (frame_for n decl result) g body in
    let close = Site.closes (after_block n g body).live (is_there result) (brace_of body) in
    let law = (all_parts (Lawfully n) front (close ∷ []) laws).1.0 (rule 20 rule20) (is_one_of rules 19 _ refl) in
    by_result t decl at x params result body q (when_not _ _ law) is

pub results_returned : (tree : List DeclTree) (p : Prog) → IsProgramOf tree p → list_all returns_a_value p.procs ≡ true
results_returned tree p is =
    let t = tables_of tree in
    let n = names_of tree in
    pointwise_all (IsProc t) (λ (d : ProcDecl). AllByRecursion (Lawfully n) (proc_sites n d.decl d.tree)) returns_a_value (procs_from 0 tree) p.procs is.1.procs
    (procs_there (Lawfully n) n nothing_seen 0 tree (all_lawful tree is.0)) (λ d q laws made. by_tree t d.decl d.at d.tree q laws made)
