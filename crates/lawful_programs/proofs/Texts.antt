-- The tables of a lawful text are ready: what its expressions call is there.
use Rattle.std.proofs.Common.{◌≡◌, ◌≤◌, ◌<◌, ◌+◌, ℕ, zero, suc, true, List, [], ◌∷◌, map, length, Some, None, refl, subst, sym, arith, inl, inr}
use Rattle.std.specs.Prelude.{slice_get}
use Rattle.std.specs.List.{AllByRecursion}
use Rattle.rp_span.specs.declared.Span.{Span}
use Rattle.rp_grammar.specs.Trees.{Ident, ConTree, StepTrees, QueryTree, ProcTree, DeclForm, DeclTree}
use Rattle.type_rules.specs.Names.{Name, Declared, Entry, same_name, text_of, con_entry, entries_from, entries_in, types_in}
use Rattle.type_rules.specs.Accesses.{of_entry}
use Rattle.type_rules.specs.Queries.{names_of}
use Rattle.type_rules.specs.TextSites.{Seen, nothing_seen, with_decl, decl_sites, inner_sites, used_from}
use Rattle.type_rules.specs.Rules.{is_query, misfit_in}
use Rattle.type_rules.specs.Faults.{IsLawful, IsOneOf}
use Rattle.desugaring.specs.Appearances.{decl_kinds, kinds_from}
use Rattle.desugaring.specs.Tables.{Tables, tables_of}
use Rattle.desugaring.specs.Callees.{Vars}
use Rattle.desugaring.specs.Expressions.{uses_before}
use Rattle.desugaring.specs.Programs.{procs_from}
use Rattle.lawful.proofs.Behind.{decl_parts}
use Rattle.lawful.proofs.Constructors.{entry_of, part_of, procs_are, tree_in}
use Rattle.lawful.proofs.Distinct.{at_place}
use Rattle.lawful.proofs.Entries.{IsConIn, con_entries, entries_are, entry_there}
use Rattle.lawful.proofs.Places.{Lawfully, all_both, all_lawful}
use Rattle.lawful.proofs.UsedQueries.{EntryIn, entries_in_text}
use Rattle.lawful_programs.specs.Valued.{Callable, Ready}
use Rattle.lawful_programs.proofs.Bases.{Numbered, Within, within_left, within_right, text_based, text_numbered, text_within}
use Rattle.lawful_programs.proofs.Calls.{con_callable, in_part, proc_callable}
use Rattle.lawful_programs.proofs.Crdts.{CrdtWhole, crdt_whole}
use Rattle.lawful_programs.proofs.Fields.{fields_whole}
use Rattle.lawful_programs.proofs.Roots.{at_member, root_callable}
use Rattle.lawful_programs.proofs.Sounds.{ProcHead, ProcSound, proc_head, procs_sound}
use Rattle.lawful_programs.proofs.Uses.{query_callable}

-- # Roots

abbrev pub DeclaredWhole : Tables → Declared → Type 0
DeclaredWhole t (Declared.root c) = CrdtWhole t c
DeclaredWhole t _ = Unit {0}

abbrev pub EntryWhole : Tables → Entry → Type 0
EntryWhole t e = DeclaredWhole t e.what

cons_pass : (t : Tables) (k type : ℕ) (cons : List ConTree) → AllByRecursion (EntryWhole t) (map (con_entry k type) cons)
cons_pass t k type [] = tt
cons_pass t k type (c ∷ cons) = (tt, cons_pass t k type cons)

roots_whole : (t : Tables) → Numbered t → (seen : Seen) (k type : ℕ) (ds : List DeclTree) → AllByRecursion (Lawfully t.names) (decl_sites t.names seen k ds)
    → Within t (kinds_from t.names k type ds) → AllByRecursion (EntryWhole t) (entries_from k type ds)
roots_whole t numbered seen k type [] laws within = tt
roots_whole t numbered seen k type (DeclTree.node at form ∷ ds) laws within =
    let n = t.names in
    let d = DeclTree.node at form in
    let next = type + length (types_in k d) in
    let p = decl_parts (Lawfully n) n seen k at form ds laws in
    let own = decl_kinds n k type form in
    let rest = kinds_from n (k + 1) next ds in
    all_both (EntryWhole t) (entries_in k type d) (entries_from (k + 1) next ds)
    (own_whole (used_from n (k + 1) ds) t numbered k type at form p.0 (within_left t own rest within))
    (roots_whole t numbered (with_decl seen form) (k + 1) next ds p.1 (within_right t own rest within)) where
      own_whole : (behind : List ℕ) (t : Tables) → Numbered t → (k type : ℕ) (at : Span) (form : DeclForm)
          → AllByRecursion (Lawfully t.names) (inner_sites t.names k behind form) → Within t (decl_kinds t.names k type form)
          → AllByRecursion (EntryWhole t) (entries_in k type (DeclTree.node at form))
      own_whole behind t numbered k type at (DeclForm.id_type x) laws within = tt
      own_whole behind t numbered k type at (DeclForm.opaque x) laws within = tt
      own_whole behind t numbered k type at (DeclForm.datatype x cons) laws within = cons_pass t k type cons
      own_whole behind t numbered k type at (DeclForm.crdt x c) laws within = (crdt_whole t numbered k c laws within, tt)
      own_whole behind t numbered k type at (DeclForm.query (QueryTree.query x params result body)) laws within = (tt, tt)
      own_whole behind t numbered k type at (DeclForm.invariant x e) laws within = tt
      own_whole behind t numbered k type at (DeclForm.proc (ProcTree.proc x params result body)) laws within = (tt, tt)

pub entries_whole : (tree : List DeclTree) → IsLawful tree → AllByRecursion (EntryWhole (tables_of tree)) (names_of tree).entries
entries_whole tree lawful =
    subst (AllByRecursion (EntryWhole (tables_of tree))) (sym (entries_are tree))
    (roots_whole (tables_of tree) (text_numbered tree) nothing_seen 0 0 tree (all_lawful tree lawful) (text_within tree))

-- # Procedures

from_map : {X Y : Type 0} (f : X → Y) (xs : List X) (y : Y) → IsOneOf y (map f xs) → (x : X) × IsOneOf x xs × (f x ≡ y)
from_map f [] y at = absurd at
from_map f (x ∷ xs) y (inl h) = (x, inl refl, h)
from_map f (x ∷ xs) y (inr h) = let r = from_map f xs y h in (r.0, inr r.1, r.2)

head_there : (tree : List DeclTree) → IsLawful tree → (q : ProcTree) → IsOneOf q (tables_of tree).procs → ProcHead (tables_of tree) q
head_there tree lawful q at =
    let t = tables_of tree in
    let d = from_map tree_in (procs_from 0 tree) q (subst (IsOneOf q) (procs_are tree) at) in
    subst (ProcHead t) d.2 (proc_head t (text_numbered tree).bool d.0.decl d.0.tree (at_member (ProcSound tree) (procs_from 0 tree) d.0 (procs_sound tree lawful) d.1))

-- # What is called

abbrev Earlier : List DeclTree → ℕ → Type 0
Earlier tree b = (m : ℕ) → m < b → Ready (tables_of tree) m (uses_before (tables_of tree) m)

callable : (tree : List DeclTree) → IsLawful tree → (b : ℕ) → Earlier tree b → (vs : Vars) (x : Ident) (steps : StepTrees) (i : ℕ) (name : Name) (decl : ℕ) (what : Declared)
    → slice_get (names_of tree).entries i ≡ Some (entry_of name decl what) → same_name name (text_of x) ≡ true
    → misfit_in (of_entry (names_of tree) x steps (Some (entry_of name decl what))) ≡ None → (is_query what ≡ true → decl < b)
    → Callable (tables_of tree) (uses_before (tables_of tree) b) vs x steps (Some (entry_of name decl what))
callable tree lawful b ready vs x steps i name decl (Declared.root c) there named fit early =
    root_callable tree lawful (text_numbered tree) (uses_before (tables_of tree) b) vs x steps i name decl c there named
    (at_place (EntryWhole (tables_of tree)) (names_of tree).entries i (entry_of name decl (Declared.root c)) (entries_whole tree lawful) there) fit
callable tree lawful b ready vs x steps i name decl (Declared.query q) there named fit early =
    let is = at_place (EntryIn 0 tree) (names_of tree).entries i (entry_of name decl (Declared.query q)) (entries_in_text tree) there in
    let number : is.0 ≡ decl = omega (arith, is.2) in
    query_callable tree lawful b decl is.1 q (subst (λ j. slice_get tree j ≡ Some (DeclTree.node is.1 (DeclForm.query q))) number is.3) (early refl)
    (ready decl (early refl)) vs x steps name fit
callable tree lawful b ready vs x steps i name decl (Declared.proc q) there named fit early =
    let at = in_part part_of (names_of tree).entries i (entry_of name decl (Declared.proc q)) q there refl in
    proc_callable (tables_of tree) (uses_before (tables_of tree) b) vs x steps name decl q at (head_there tree lawful q at) fit
callable tree lawful b ready vs x steps i name decl (Declared.con type c) there named fit early =
    con_callable (tables_of tree) (text_numbered tree) (text_based tree lawful) (uses_before (tables_of tree) b) vs x steps name decl type c
    (at_place (IsConIn (names_of tree).types) (names_of tree).entries i (entry_of name decl (Declared.con type c)) (con_entries tree) there) fit

ready_behind : (tree : List DeclTree) → IsLawful tree → (b : ℕ) → Earlier tree b → Ready (tables_of tree) b (uses_before (tables_of tree) b)
ready_behind tree lawful b ready = record {
  bool = (text_numbered tree).bool;
  fields = fields_whole (tables_of tree) (text_numbered tree) (text_based tree lawful);
  call = λ vs x steps e found fit early.
      let s = entry_there (names_of tree).entries (text_of x) e found in
      callable tree lawful b ready vs x steps s.place e.name e.decl e.what s.there s.named fit early;
}

ready_up_to : (tree : List DeclTree) → IsLawful tree → (top b : ℕ) → b ≤ top → Ready (tables_of tree) b (uses_before (tables_of tree) b)
ready_up_to tree lawful zero b e = ready_behind tree lawful b (λ m less. absurd (omega (arith, e, less)))
ready_up_to tree lawful (suc top) b e = ready_behind tree lawful b (λ m less. ready_up_to tree lawful top m (omega (arith, e, less)))

pub text_ready : (tree : List DeclTree) → IsLawful tree → (b : ℕ) → Ready (tables_of tree) b (uses_before (tables_of tree) b)
text_ready tree lawful b = ready_up_to tree lawful b b (omega arith)
