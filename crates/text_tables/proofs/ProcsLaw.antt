-- Procedures are found by their names.
use Rattle.std.proofs.Common.{◌≡◌, ℕ, ◌+◌, List, [], ◌∷◌, ◌++◌, map, Some, refl, sym, ap, subst, ◌∙◌, arith}
use Rattle.std.specs.Prelude.{if◌then◌else◌}
use Rattle.std.specs.List.{position_from}
use Rattle.std.proofs.lemmas.List.{append-nil, append_assoc, length-append, length-map, map-append}
use Rattle.std.proofs.lemmas.List.Elements.{filter_map-append}
use Rattle.rp_grammar.specs.Trees.{DeclTree, ProcTree}
use Rattle.type_rules.specs.Names.{Name, same_name}
use Rattle.type_tables.specs.Tables.{Entries, IsIndexOf, number_in, place_from, with_first}
use Rattle.type_tables.proofs.Places.{indexed_push}
use Rattle.desugaring.specs.Tables.{proc_name}
use Rattle.text_tables.specs.means.Kept.{AreProcs, proc_of, procs_in}

pub procs_none : (numbers : Entries) → numbers ≡ [] → AreProcs [] numbers 0
procs_none numbers e = record { found = λ x. ap (λ es. number_in es x) e; many = refl }

pub procs_more : (before : List ProcTree) (p : ProcTree) (numbers after : Entries) (count new : ℕ) → AreProcs before numbers count
    → number_in after ≡ with_first (number_in numbers) (proc_name p) count → new ≡ count + 1 → AreProcs (before ++ p ∷ []) after new
procs_more before p numbers after count new are given e = record {
  found = subst (IsIndexOf after) (sym (map-append proc_name before (p ∷ [])))
      (indexed_push (map proc_name before) (proc_name p) numbers after count are.found (are.many ∙ sym (length-map before proc_name)) given);
  many = let many = are.many in let more = length-append before (p ∷ []) in omega (arith, e, many, more);
}

pub procs_same : (before : List ProcTree) (numbers : Entries) (count : ℕ) → AreProcs before numbers count → AreProcs (before ++ []) numbers count
procs_same before numbers count are = subst (λ ps. AreProcs ps numbers count) (sym (append-nil before)) are

pub procs_split : (before : List ProcTree) (d : DeclTree) (ds all : List DeclTree) → before ++ procs_in (d ∷ ds) ≡ procs_in all
    → (before ++ procs_in (d ∷ [])) ++ procs_in ds ≡ procs_in all
procs_split before d ds all e =
    append_assoc before (procs_in (d ∷ [])) (procs_in ds) ∙ ap (λ ps. before ++ ps) (sym (filter_map-append proc_of (d ∷ []) ds)) ∙ e

-- the place of a name is the number of the procedure
pub place_position : (k : ℕ) (ps : List ProcTree) (x : Name) → place_from k (map proc_name ps) x ≡ position_from (λ p. same_name (proc_name p) x) k ps
place_position k [] x = refl
place_position k (p ∷ ps) x = ap (λ o. if same_name (proc_name p) x then Some k else o) (place_position (k + 1) ps x)
