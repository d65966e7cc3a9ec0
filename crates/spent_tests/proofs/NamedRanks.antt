-- The greatest rank of what a node names.
use Rattle.std.proofs.Common.{◌≡◌, ℕ, List, [], ◌∷◌, ◌++◌, map, max, refl, ap, ap₂, sym, ◌∙◌, arith}
use Rattle.std.specs.Prelude.{flat_map}
use Rattle.rp_logic.specs.Terms.{Tm, Tms, no_tm, also_tm, At}
use Rattle.rp_logic.specs.Views.{tms_of}
use Rattle.refute_defs.specs.Parts.{atom_args}
use Rattle.refute_defs.specs.Uses.{Use}
use Rattle.spent_defs.specs.Ranks.{Ranked, rank_at, term_rank, terms_list, greatest, named_rank, named_terms}
use Rattle.spent_tests.specs.means.NamedRanks.{rank_of_places, rank_of_terms, rank_of_atoms}

zero_most : (n : ℕ) → max 0 n ≡ n
zero_most n = omega arith

most_assoc : (k m n : ℕ) → max k (max m n) ≡ max (max k m) n
most_assoc k m n = omega arith

greatest_both : (ms ns : List ℕ) → greatest (ms ++ ns) ≡ max (greatest ms) (greatest ns)
greatest_both [] ns = sym (zero_most (greatest ns))
greatest_both (m ∷ ms) ns = ap (max m) (greatest_both ms ns) ∙ most_assoc m (greatest ms) (greatest ns)

map_append : {A B : Type 0} (f : A → B) (xs ys : List A) → map f (xs ++ ys) ≡ map f xs ++ map f ys
map_append f [] ys = refl
map_append f (x ∷ xs) ys = ap (λ zs. f x ∷ zs) (map_append f xs ys)

places_rank : (b : Ranked) (ps : List ℕ) → greatest (map (rank_at b) ps) ≡ rank_of_places b ps
places_rank b [] = refl
places_rank b (p ∷ ps) = ap (max (rank_at b p)) (places_rank b ps)

listed_rank : (b : Ranked) (ts : List Tm) → greatest (map (term_rank b) ts) ≡ rank_of_terms b (tms_of ts)
listed_rank b [] = refl
listed_rank b (t ∷ ts) = ap (max (term_rank b t)) (listed_rank b ts)

args_rank : (b : Ranked) (ts : Tms) → greatest (map (term_rank b) (terms_list ts)) ≡ rank_of_terms b ts
args_rank b no_tm = refl
args_rank b (also_tm t ts) = ap (max (term_rank b t)) (args_rank b ts)

atoms_rank : (b : Ranked) (ats : List At)
    → greatest (map (term_rank b) (flat_map (λ a. terms_list (atom_args a)) ats)) ≡ rank_of_atoms b ats
atoms_rank b [] = refl
atoms_rank b (a ∷ ats) =
    let args = terms_list (atom_args a) in
    let rest = flat_map (λ c. terms_list (atom_args c)) ats in
    ap greatest (map_append (term_rank b) args rest)
    ∙ greatest_both (map (term_rank b) args) (map (term_rank b) rest)
    ∙ ap₂ max (args_rank b (atom_args a)) (atoms_rank b ats)

pub named_rank_is : (b : Ranked) (u : Use) → named_rank b u
    ≡ max (rank_of_places b u.places) (max (rank_of_terms b (tms_of u.terms)) (rank_of_atoms b u.atoms))
named_rank_is b u =
    let terms = flat_map (λ a. terms_list (atom_args a)) u.atoms in
    greatest_both (map (rank_at b) u.places) (map (term_rank b) (named_terms u))
    ∙ ap₂ max (places_rank b u.places)
    (ap greatest (map_append (term_rank b) u.terms terms)
    ∙ greatest_both (map (term_rank b) u.terms) (map (term_rank b) terms)
    ∙ ap₂ max (listed_rank b u.terms) (atoms_rank b u.atoms))
