-- The roots and procedures of a text's names are those that its declarations declare.
use Rattle.std.proofs.Common.{◌≡◌, ℕ, ◌+◌, List, [], ◌∷◌, ◌++◌, length, map, Option, refl, sym, ap, ap₂, ◌∙◌}
use Rattle.std.specs.List.{filter_map}
use Rattle.std.proofs.lemmas.List.Elements.{filter_map-append}
use Rattle.rp_grammar.specs.Trees.{ConTree, DeclForm, DeclTree, ProcTree, QueryTree}
use Rattle.type_rules.specs.Names.{Entry, Names, con_entry, entries_from, entries_in, types_in}
use Rattle.type_rules.specs.Queries.{declared_names, is_formula_decl, names_of, with_flag, with_formulas}
use Rattle.desugaring.specs.Objects.{Root, root_in, roots_of}
use Rattle.desugaring.specs.Tables.{proc_in}
use Rattle.text_tables.specs.means.Counted.{crdts_in}
use Rattle.text_tables.specs.means.Kept.{crdts_of, proc_of, procs_in, procs_of}
use Rattle.text_tables.specs.means.Rooted as rooted
use Rattle.text_tables.specs.means.Rooted.{roots_in}

formulas_keep : (n : Names) (ds : List DeclTree) → (with_formulas n ds).entries ≡ n.entries
formulas_keep n [] = refl
formulas_keep n (d ∷ ds) = formulas_keep (with_flag n (is_formula_decl n d)) ds

pub entries_are : (ds : List DeclTree) → (names_of ds).entries ≡ entries_from 0 0 ds
entries_are ds = formulas_keep (declared_names ds) ds

abbrev proc_part : Entry → Option ProcTree
proc_part entry = proc_in entry.what

abbrev root_part : Entry → Option Root
root_part entry = root_in entry.name entry.what

-- # Procedures

con_procs : (k type : ℕ) (cons : List ConTree) → filter_map proc_part (map (con_entry k type) cons) ≡ []
con_procs k type [] = refl
con_procs k type (c ∷ cons) = con_procs k type cons

decl_procs : (k type : ℕ) (d : DeclTree) → filter_map proc_part (entries_in k type d) ≡ procs_in (d ∷ [])
decl_procs k type (DeclTree.node at (DeclForm.id_type x)) = refl
decl_procs k type (DeclTree.node at (DeclForm.opaque x)) = refl
decl_procs k type (DeclTree.node at (DeclForm.datatype x cons)) = con_procs k type cons
decl_procs k type (DeclTree.node at (DeclForm.crdt x c)) = refl
decl_procs k type (DeclTree.node at (DeclForm.query (QueryTree.query x params result body))) = refl
decl_procs k type (DeclTree.node at (DeclForm.invariant x e)) = refl
decl_procs k type (DeclTree.node at (DeclForm.proc (ProcTree.proc x params result body))) = refl

procs_from : (k type : ℕ) (ds : List DeclTree) → filter_map proc_part (entries_from k type ds) ≡ procs_in ds
procs_from k type [] = refl
procs_from k type (d ∷ ds) =
    filter_map-append proc_part (entries_in k type d) (entries_from (k + 1) (type + length (types_in k d)) ds)
    ∙ ap₂ (λ xs ys. xs ++ ys) (decl_procs k type d) (procs_from (k + 1) (type + length (types_in k d)) ds)
    ∙ sym (filter_map-append proc_of (d ∷ []) ds)

pub procs_are : (ds : List DeclTree) → procs_of (names_of ds) ≡ procs_in ds
procs_are ds = ap (filter_map proc_part) (entries_are ds) ∙ procs_from 0 0 ds

-- # Roots

con_roots : (k type : ℕ) (cons : List ConTree) → filter_map root_part (map (con_entry k type) cons) ≡ []
con_roots k type [] = refl
con_roots k type (c ∷ cons) = con_roots k type cons

decl_roots : (k type : ℕ) (d : DeclTree) → filter_map root_part (entries_in k type d) ≡ roots_in (d ∷ [])
decl_roots k type (DeclTree.node at (DeclForm.id_type x)) = refl
decl_roots k type (DeclTree.node at (DeclForm.opaque x)) = refl
decl_roots k type (DeclTree.node at (DeclForm.datatype x cons)) = con_roots k type cons
decl_roots k type (DeclTree.node at (DeclForm.crdt x c)) = refl
decl_roots k type (DeclTree.node at (DeclForm.query (QueryTree.query x params result body))) = refl
decl_roots k type (DeclTree.node at (DeclForm.invariant x e)) = refl
decl_roots k type (DeclTree.node at (DeclForm.proc (ProcTree.proc x params result body))) = refl

roots_from : (k type : ℕ) (ds : List DeclTree) → filter_map root_part (entries_from k type ds) ≡ roots_in ds
roots_from k type [] = refl
roots_from k type (d ∷ ds) =
    filter_map-append root_part (entries_in k type d) (entries_from (k + 1) (type + length (types_in k d)) ds)
    ∙ ap₂ (λ xs ys. xs ++ ys) (decl_roots k type d) (roots_from (k + 1) (type + length (types_in k d)) ds)
    ∙ sym (filter_map-append rooted.root_in (d ∷ []) ds)

pub roots_are : (ds : List DeclTree) → roots_of (names_of ds) ≡ roots_in ds
roots_are ds = ap (filter_map root_part) (entries_are ds) ∙ roots_from 0 0 ds

-- with their replicated types alone
pub crdts_seen : (ds : List DeclTree) → map (λ root. root.crdt) (roots_in ds) ≡ crdts_in ds
crdts_seen [] = refl
crdts_seen (DeclTree.node at (DeclForm.id_type x) ∷ ds) = crdts_seen ds
crdts_seen (DeclTree.node at (DeclForm.opaque x) ∷ ds) = crdts_seen ds
crdts_seen (DeclTree.node at (DeclForm.datatype x cons) ∷ ds) = crdts_seen ds
crdts_seen (DeclTree.node at (DeclForm.crdt x c) ∷ ds) = ap (λ cs. c ∷ cs) (crdts_seen ds)
crdts_seen (DeclTree.node at (DeclForm.query q) ∷ ds) = crdts_seen ds
crdts_seen (DeclTree.node at (DeclForm.invariant x e) ∷ ds) = crdts_seen ds
crdts_seen (DeclTree.node at (DeclForm.proc p) ∷ ds) = crdts_seen ds

pub crdts_are : (ds : List DeclTree) → crdts_of (names_of ds) ≡ crdts_in ds
crdts_are ds = ap (map (λ (root : Root). root.crdt)) (roots_are ds) ∙ crdts_seen ds
