-- Look-ups in lists one behind the other.
use Rattle.std.proofs.Common.{◌≡◌, ℕ, zero, suc, ◌+◌, List, [], ◌∷◌, ◌++◌, length, map, Some, slice_get, ap, ◌∙◌, arith}
use Rattle.std.specs.Option.{option_map}
use Rattle.std.proofs.lemmas.Option.{none-some, slice_get-map}

pub get-front : {A : Type 0} (xs ys : List A) (n : ℕ) (x : A) → slice_get xs n ≡ Some x → slice_get (xs ++ ys) n ≡ Some x
get-front [] ys n x e = absurd (none-some x e)
get-front (y ∷ xs) ys zero x e = e
get-front (y ∷ xs) ys (suc n) x e = get-front xs ys n x e

pub get-behind : {A : Type 0} (xs ys : List A) (m n : ℕ) → length xs ≡ m → slice_get (xs ++ ys) (m + n) ≡ slice_get ys n
get-behind [] ys zero n e = ap (slice_get ys) (omega arith)
get-behind [] ys (suc m) n e = absurd (omega arith)
get-behind (x ∷ xs) ys zero n e = absurd (omega arith)
get-behind (x ∷ xs) ys (suc m) n e =
    ap (slice_get (x ∷ xs ++ ys)) (let q : suc m + n ≡ suc (m + n) = omega arith in q) ∙ get-behind xs ys m n (omega arith)

-- right behind
pub get-next : {A : Type 0} (xs : List A) (y : A) (ys : List A) (m : ℕ) → length xs ≡ m → slice_get (xs ++ y ∷ ys) m ≡ Some y
get-next xs y ys m e = ap (slice_get (xs ++ y ∷ ys)) (let q : m ≡ m + 0 = omega arith in q) ∙ get-behind xs (y ∷ ys) m 0 e

pub get-mapped : {A B : Type 0} (f : A → B) (xs : List A) (n : ℕ) (x : A) → slice_get xs n ≡ Some x → slice_get (map f xs) n ≡ Some (f x)
get-mapped f xs n x e = slice_get-map f xs n ∙ ap (option_map f) e
