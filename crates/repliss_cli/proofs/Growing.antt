-- Texts that grow piece by piece.
use Rattle.std.proofs.Common.{◌≡◌, ℕ, ◌+◌, ◌<◌, List, [], ◌++◌, length, take, get_or, ap, sym, ◌∙◌, append_assoc, flat_map}
use Rattle.std.proofs.lemmas.List.{flat_map_more, take_more}

-- the pieces of one element more
pub piece_more : {X : Type 0} (f : X → List ℕ) (start now next : List ℕ) (xs : List X) (i : ℕ) (d : X) → i < length xs
    → next ≡ now ++ f (get_or xs i d) → now ≡ start ++ flat_map f (take i xs) → next ≡ start ++ flat_map f (take (i + 1) xs)
piece_more f start now next xs i d lt step so_far =
    step ∙ (ap (λ t. t ++ f (get_or xs i d)) so_far ∙ (append_assoc start (flat_map f (take i xs)) (f (get_or xs i d))
    ∙ ap (λ t. start ++ t) (flat_map_more f [] (take i xs) (get_or xs i d) ∙ ap (flat_map f) (sym (take_more xs i d lt)))))
