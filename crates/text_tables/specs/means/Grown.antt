-- Lists that grow by what is made of each member of another, where each has something.
use Rattle.std.specs.Prelude.{◌≡◌, List, ◌++◌, Option, Some, option_map}
use Rattle.desugaring.specs.Parts.{each}

abbrev pub grown : {X Y : Type 0} → (X → Option Y) → List Y → List X → Option (List Y)
grown f old xs = option_map (λ more. old ++ more) (each f xs)

-- what is made of each stands behind what was there
abbrev pub Grows : {X Y : Type 0} → (X → Option Y) → List Y → List X → List Y → Type 0
Grows f old xs new = grown f old xs ≡ Some new
