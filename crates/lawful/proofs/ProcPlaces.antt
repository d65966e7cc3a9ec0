-- At each place of a procedure of a lawful text no rule is broken, its number fits and its uses are quiet.
use Rattle.std.proofs.Common.{◌≡◌, ◌+◌, ℕ, suc, true, false, not, List, [], ◌∷◌, Some, refl, ap, subst, arith}
use Rattle.std.specs.Prelude.{slice_get}
use Rattle.std.specs.List.{AllByRecursion}
use Rattle.rp_grammar.specs.Trees.{DeclForm, DeclTree}
use Rattle.rp_grammar.specs.Texts.{IsText}
use Rattle.rp_grammar.proofs.FormedTexts.{Lexable, text_formed}
use Rattle.type_rules.specs.Names.{Names}
use Rattle.type_rules.specs.Queries.{names_of}
use Rattle.type_rules.specs.DeclSites.{proc_sites}
use Rattle.type_rules.specs.TextSites.{nothing_seen}
use Rattle.type_rules.specs.Faults.{IsLawful}
use Rattle.desugaring.specs.Programs.{ProcDecl, procs_from}
use Rattle.lawful.specs.Kept.{AllKept, has_number, may_speak}
use Rattle.lawful.proofs.Distinct.{all_changed}
use Rattle.lawful.proofs.Places.{Lawfully, all_lawful, all_kept}
use Rattle.lawful.proofs.TextNumbers.{decl_numbers}
use Rattle.lawful.proofs.Behind.{used_behind}
use Rattle.lawful.proofs.Quiet.{all_early, all_quiet}
use Rattle.lawful.proofs.InsideStmts.{proc_inside}
use Rattle.lawful.proofs.Results.{procs_there}
use Rattle.lawful.proofs.ProcFlows.{all_pairs}

-- the procedure stands where its number says
abbrev pub StandsIn : ℕ → List DeclTree → ProcDecl → Type 0
StandsIn k ds d = (i : ℕ) × (k + i ≡ d.decl) × (slice_get ds i ≡ Some (DeclTree.node d.at (DeclForm.proc d.tree)))

one_further : (k : ℕ) (first : DeclTree) (ds : List DeclTree) (d : ProcDecl) → StandsIn (k + 1) ds d → StandsIn k (first ∷ ds) d
one_further k first ds d is = let number : k + suc is.0 ≡ d.decl = omega (arith, is.1) in (suc is.0, number, is.2)

pub procs_stand : (k : ℕ) (ds : List DeclTree) → AllByRecursion (StandsIn k ds) (procs_from k ds)
procs_stand k [] = tt
procs_stand k (DeclTree.node at (DeclForm.proc q) ∷ ds) =
    let number : k + 0 ≡ k = omega arith in
    ((0, number, refl), all_changed (StandsIn (k + 1) ds) _ (procs_from (k + 1) ds) (one_further k _ ds) (procs_stand (k + 1) ds))
procs_stand k (DeclTree.node at (DeclForm.id_type x) ∷ ds) =
    all_changed (StandsIn (k + 1) ds) _ (procs_from (k + 1) ds) (one_further k _ ds) (procs_stand (k + 1) ds)
procs_stand k (DeclTree.node at (DeclForm.opaque x) ∷ ds) =
    all_changed (StandsIn (k + 1) ds) _ (procs_from (k + 1) ds) (one_further k _ ds) (procs_stand (k + 1) ds)
procs_stand k (DeclTree.node at (DeclForm.datatype x cons) ∷ ds) =
    all_changed (StandsIn (k + 1) ds) _ (procs_from (k + 1) ds) (one_further k _ ds) (procs_stand (k + 1) ds)
procs_stand k (DeclTree.node at (DeclForm.crdt x c) ∷ ds) =
    all_changed (StandsIn (k + 1) ds) _ (procs_from (k + 1) ds) (one_further k _ ds) (procs_stand (k + 1) ds)
procs_stand k (DeclTree.node at (DeclForm.query q) ∷ ds) =
    all_changed (StandsIn (k + 1) ds) _ (procs_from (k + 1) ds) (one_further k _ ds) (procs_stand (k + 1) ds)
procs_stand k (DeclTree.node at (DeclForm.invariant x e) ∷ ds) =
    all_changed (StandsIn (k + 1) ds) _ (procs_from (k + 1) ds) (one_further k _ ds) (procs_stand (k + 1) ds)

abbrev pub LawsOf : Names → ProcDecl → Type 0
LawsOf n d = AllByRecursion (Lawfully n) (proc_sites n d.decl d.tree)

abbrev NumbersOf : Names → ProcDecl → Type 0
NumbersOf n d = AllByRecursion (λ s. has_number s ≡ true) (proc_sites n d.decl d.tree)

abbrev FactsOf : Names → ProcDecl → Type 0
FactsOf n d = LawsOf n d × NumbersOf n d

abbrev KeptOf : List DeclTree → ProcDecl → Type 0
KeptOf tree d = AllKept (names_of tree) (may_speak tree) (proc_sites (names_of tree) d.decl d.tree)

proc_kept : (tree : List DeclTree) (d : ProcDecl) → FactsOf (names_of tree) d → StandsIn 0 tree d → KeptOf tree d
proc_kept tree d facts stands =
    let n = names_of tree in
    let sites = proc_sites n d.decl d.tree in
    let place : stands.0 ≡ d.decl = omega (arith, stands.1) in
    let there : slice_get tree d.decl ≡ Some (DeclTree.node d.at (DeclForm.proc d.tree)) =
    subst (λ i. slice_get tree i ≡ Some (DeclTree.node d.at (DeclForm.proc d.tree))) place stands.2 in
    let number : 0 + d.decl ≡ d.decl = omega arith in
    let quiet = all_quiet n (may_speak tree) sites (λ j e.
    ap not (used_behind n 0 tree d.decl d.decl j j d.at (DeclForm.proc d.tree) number there e
    (all_early n d.decl false sites facts.0 (proc_inside d.decl n d.tree) j e))) in
    all_kept n (may_speak tree) sites facts.0 facts.1 quiet

pub procs_kept : (bytes : List ℕ) (tree : List DeclTree) → IsText bytes tree → IsLawful tree → AllByRecursion (KeptOf tree) (procs_from 0 tree)
procs_kept bytes tree text lawful =
    let n = names_of tree in
    let laws = procs_there (Lawfully n) n nothing_seen 0 tree (all_lawful tree lawful) in
    let numbers = procs_there (λ s. has_number s ≡ true) n nothing_seen 0 tree (decl_numbers Lexable (λ i h. h) n nothing_seen 0 tree (text_formed bytes tree text)) in
    let facts = all_pairs (LawsOf n) (NumbersOf n) (procs_from 0 tree) laws numbers in
    let all = all_pairs (FactsOf n) (StandsIn 0 tree) (procs_from 0 tree) facts (procs_stand 0 tree) in
    all_changed (λ d. FactsOf n d × StandsIn 0 tree d) (KeptOf tree) (procs_from 0 tree) (λ d h. proc_kept tree d h.0 h.1) all
