-- Which item of a table some bytes name.
use Rattle.std.specs.Prelude.{ℕ, ◌==◌, if◌then◌else◌, List, [], ◌∷◌, length, Option}
use Rattle.std.specs.List.{find}
use Rattle.std.specs.Str.{bytes_eq}

-- the first of the items whose text these bytes are
abbrev pub named : {X : Type 0} → (X → List ℕ) → List X → List ℕ → Option X
named text xs bytes = find (λ x. bytes_eq (text x) bytes) xs

-- those of the items whose texts have n bytes
abbrev pub sized : {X : Type 0} → (X → List ℕ) → ℕ → List X → List X
sized text n [] = []
sized text n (x ∷ xs) = if length (text x) == n then x ∷ sized text n xs else sized text n xs
