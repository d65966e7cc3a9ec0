-- Identifiers and opaque values inside values, one value at a time.
use Rattle.std.proofs.Common.{◌≡◌, ℕ, ◌+◌, ◌<◌, ◌≤◌, Bool, refl, sym, ap, ◌∙◌, List, [], ◌∷◌, ◌++◌, map, length, get_or, drop, Some, None}
use Rattle.std.specs.Prelude.{find}
use Rattle.std.specs.Option.{option_or}
use Rattle.std.proofs.lemmas.List.{drop_more, drop_all}
use Rattle.std.proofs.lemmas.List.Folds.{find-append}
use Rattle.rp_value.specs.declared.value.Value.{Value}
use Rattle.rp_value.specs.Values.{Val}
use Rattle.rp_value.specs.ValueView.{value_view, values_view}
use Rattle.crdt_defs.specs.Fitting.{atoms, atoms_in_fields, all_atoms}

pub atoms_listed : (vs : List Value) → atoms_in_fields (values_view vs) ≡ all_atoms (map value_view vs)
atoms_listed [] = refl
atoms_listed (v ∷ vs) = ap (λ rest. atoms (value_view v) ++ rest) (atoms_listed vs)

-- the first from a value on is the first in it, or else behind it
pub found_more : (p : Val → Bool) (vs : List Value) (i : ℕ) (v : Value) → i < length vs → v ≡ get_or vs i v
    → find p (all_atoms (map value_view (drop i vs))) ≡ option_or (find p (atoms (value_view v))) (find p (all_atoms (map value_view (drop (i + 1) vs))))
found_more p vs i v lt e =
    ap (λ xs. find p (all_atoms (map value_view xs))) (drop_more vs i v lt)
    ∙ find-append p (atoms (value_view (get_or vs i v))) (all_atoms (map value_view (drop (i + 1) vs)))
    ∙ ap (λ x. option_or (find p (atoms (value_view x))) (find p (all_atoms (map value_view (drop (i + 1) vs))))) (sym e)

-- # A walk over the values, while nothing is found before the i-th

pub first_here : (p : Val → Bool) (vs : List Value) (i : ℕ) (v : Value) (found : Val) → i < length vs → v ≡ get_or vs i v → Some found ≡ find p (atoms (value_view v))
    → find p (all_atoms (map value_view (drop i vs))) ≡ find p (all_atoms (map value_view vs)) → Some found ≡ find p (all_atoms (map value_view vs))
first_here p vs i v found lt is here walk =
    ap (λ o. option_or o (find p (all_atoms (map value_view (drop (i + 1) vs))))) here ∙ sym (found_more p vs i v lt is) ∙ walk

pub first_behind : (p : Val → Bool) (vs : List Value) (i : ℕ) (v : Value) → i < length vs → v ≡ get_or vs i v → None ≡ find p (atoms (value_view v))
    → find p (all_atoms (map value_view (drop i vs))) ≡ find p (all_atoms (map value_view vs))
    → find p (all_atoms (map value_view (drop (i + 1) vs))) ≡ find p (all_atoms (map value_view vs))
first_behind p vs i v lt is none walk =
    ap (λ o. option_or o (find p (all_atoms (map value_view (drop (i + 1) vs))))) none ∙ sym (found_more p vs i v lt is) ∙ walk

pub first_nowhere : (p : Val → Bool) (vs : List Value) (i : ℕ) → length vs ≤ i
    → find p (all_atoms (map value_view (drop i vs))) ≡ find p (all_atoms (map value_view vs)) → None ≡ find p (all_atoms (map value_view vs))
first_nowhere p vs i end walk = ap (λ xs. find p (all_atoms (map value_view xs))) (sym (drop_all i vs end)) ∙ walk
