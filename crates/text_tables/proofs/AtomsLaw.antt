-- Id types and opaque types by their numbers.
use Rattle.std.proofs.Common.{◌≡◌, ℕ, zero, suc, ◌+◌, ◌<◌, ◌≤◌, Bool, true, false, cond, List, [], ◌∷◌, ◌++◌, length, drop, Some, refl, sym, ap, ◌∙◌, arith, ◌⊎◌, inl, inr}
use Rattle.std.specs.Prelude.{is_some}
use Rattle.std.specs.List.{slice_get}
use Rattle.std.specs.Option.{option_and_then}
use Rattle.std.proofs.lemmas.List.{append-nil, append_assoc, take_all}
use Rattle.std.proofs.lemmas.List.Elements.{filter_map-append}
use Rattle.std.proofs.lemmas.Option.{same_Some, slice_get_within}
use Rattle.rp_value.specs.declared.tables.AtomType.{AtomType}
use Rattle.type_rules.specs.Names.{Names, TypeEntry}
use Rattle.text_names.proofs.Entries.{drop_past}
use Rattle.desugaring.specs.Tables.{atom_in, atom_number, atoms}
use Rattle.text_tables.specs.means.Kept.{AreAtoms}
use Rattle.text_tables.proofs.PartsLaw.{get_end}
use Rattle.text_tables.proofs.TextsLaw.{count_more}

at_front : {X : Type 0} (xs : List X) (x : X) (k : ℕ) → k < length xs → slice_get (xs ++ x ∷ []) k ≡ slice_get xs k
at_front [] x k lt = absurd (omega (arith, lt))
at_front (y ∷ xs) x zero lt = refl
at_front (y ∷ xs) x (suc k) lt = at_front xs x k (omega (arith, lt))

pub atoms_more : (n : Names) (numbers : List ℕ) (i count : ℕ) → length numbers ≡ i → count ≡ atom_number n i
    → ((k : ℕ) → k < i → slice_get numbers k ≡ Some (atom_number n k))
    → (k : ℕ) → k < i + 1 → slice_get (numbers ++ count ∷ []) k ≡ Some (atom_number n k)
atoms_more n numbers i count long is are k less = elim (split k i less) [
  | inl before ↦ at_front numbers count k (omega (arith, before, long)) ∙ are k before
  | inr last ↦
      ap (slice_get (numbers ++ count ∷ [])) (last ∙ sym long) ∙ get_end numbers count ∙ ap Some is ∙ ap (λ j. Some (atom_number n j)) (sym last)
]
  where
    split : (k i : ℕ) → k < i + 1 → (k < i) ⊎ (k ≡ i)
    split zero zero less = inr refl
    split zero (suc i) less = inl (omega arith)
    split (suc k) zero less = absurd (omega (arith, less))
    split (suc k) (suc i) less = elim (split k i (omega (arith, less))) [
      | inl before ↦ inl (omega (arith, before))
      | inr last ↦ inr (ap suc last)
    ]

pub atoms_next : (n : Names) (i count : ℕ) (is_one : Bool) → i < length n.types → count ≡ atom_number n i
    → is_one ≡ is_some (option_and_then atom_in (slice_get n.types i)) → count + cond is_one 1 0 ≡ atom_number n (i + 1)
atoms_next n i count is_one lt is one =
    let next : suc i ≡ i + 1 = omega arith in
    ap (λ b. count + cond b 1 0) one ∙ ap (λ c. c + cond (is_some (option_and_then atom_in (slice_get n.types i))) 1 0) is
    ∙ sym (count_more n.types i lt) ∙ ap (atom_number n) next

pub few_more : (count new i : ℕ) (is_one : Bool) → count ≤ i → new ≡ count + cond is_one 1 0 → new ≤ i + 1
few_more count new i true few e = omega (arith, few, e)
few_more count new i false few e = omega (arith, few, e)

pub atoms_end : (n : Names) (numbers : List ℕ) (i count : ℕ) → length numbers ≡ i → count ≡ atom_number n i → length n.types ≤ i
    → ((k : ℕ) → k < i → slice_get numbers k ≡ Some (atom_number n k)) → AreAtoms n (numbers ++ count ∷ [])
atoms_end n numbers i count long is past are k within = atoms_more n numbers i count long is are k (omega (arith, within, past))

-- # The entries

drop_at : {X : Type 0} (xs : List X) (i : ℕ) (x : X) → slice_get xs i ≡ Some x → drop i xs ≡ x ∷ drop (i + 1) xs
drop_at [] i x e = absurd cc
drop_at (y ∷ xs) zero x e = ap (λ z. z ∷ xs) (same_Some y x e)
drop_at (y ∷ xs) (suc i) x e = let next : suc (i + 1) ≡ suc i + 1 = omega arith in drop_at xs i x e ∙ ap (λ k. x ∷ drop k (y ∷ xs)) next

pub list_step : (types : List TypeEntry) (i : ℕ) (x : TypeEntry) (list more all : List AtomType) → slice_get types i ≡ Some x
    → more ≡ list ++ atoms (x ∷ []) → list ++ atoms (drop i types) ≡ all → more ++ atoms (drop (i + 1) types) ≡ all
list_step types i x list more all at is before =
    ap (λ as_. as_ ++ atoms (drop (i + 1) types)) is
    ∙ append_assoc list (atoms (x ∷ [])) (atoms (drop (i + 1) types))
    ∙ ap (λ as_. list ++ as_) (sym (filter_map-append atom_in (x ∷ []) (drop (i + 1) types)))
    ∙ ap (λ es. list ++ atoms es) (sym (drop_at types i x at)) ∙ before

pub list_end : (types : List TypeEntry) (i : ℕ) (list all : List AtomType) → length types ≤ i → list ++ atoms (drop i types) ≡ all → list ≡ all
list_end types i list all past before = sym (append-nil list) ∙ ap (λ es. list ++ atoms es) (sym (drop_past types i past)) ∙ before

-- so many, with all types
pub all_counted : (n : Names) → atom_number n (length n.types) ≡ length (atoms n.types)
all_counted n = ap (λ es. length (atoms es)) (take_all (length n.types) n.types (omega arith))

-- # What is kept

pub atom_within : (n : Names) (numbers : List ℕ) (k : ℕ) → AreAtoms n numbers → k ≤ length n.types → k < length numbers
atom_within n numbers k are within = slice_get_within numbers k (atom_number n k) (are k within)

pub atom_read : (n : Names) (numbers : List ℕ) (k x : ℕ) → AreAtoms n numbers → k ≤ length n.types → slice_get numbers k ≡ Some x → x ≡ atom_number n k
atom_read n numbers k x are within read = same_Some x (atom_number n k) (sym read ∙ are k within)
