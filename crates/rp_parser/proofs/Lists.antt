-- Lists that grow at their end.
use Rattle.std.proofs.Common.{◌≡◌, List, [], ◌∷◌, ◌++◌, map, refl, ap, sym, ◌∙◌}

map_last : {X Y : Type 0} → (f : X → Y) (xs : List X) (x : X) → map f (xs ++ x ∷ []) ≡ map f xs ++ f x ∷ []
map_last f [] x = refl
map_last f (y ∷ ys) x = ap (λ zs. f y ∷ zs) (map_last f ys x)

-- what a pushed list is seen as
pub map_pushed : {X Y : Type 0} → (f : X → Y) (all xs : List X) (x : X) → all ≡ xs ++ x ∷ [] → map f xs ++ f x ∷ [] ≡ map f all
map_pushed f all xs x h = sym (map_last f xs x) ∙ ap (map f) (sym h)

-- a list of one
pub map_one : {X Y : Type 0} → (f : X → Y) (all xs : List X) (x : X) → xs ≡ [] → all ≡ xs ++ x ∷ [] → map f all ≡ f x ∷ []
map_one f all xs x e h = ap (map f) (h ∙ ap (λ xs. xs ++ x ∷ []) e)

-- a list of two
pub map_two : {X Y : Type 0} → (f : X → Y) (all one none : List X) (x y : X) → none ≡ [] → one ≡ none ++ x ∷ [] → all ≡ one ++ y ∷ [] → map f all ≡ f x ∷ f y ∷ []
map_two f all one none x y e h i = ap (map f) (i ∙ ap (λ xs. xs ++ y ∷ []) (h ∙ ap (λ xs. xs ++ x ∷ []) e))
