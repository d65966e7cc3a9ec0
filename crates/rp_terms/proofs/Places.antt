-- What stands at a place of a list that is longer by one.
use Rattle.std.proofs.Common.{◌≡◌, ◌<◌, ◌⊎◌, inl, inr, ℕ, zero, suc, length, List, [], ◌∷◌, ◌++◌, slice_get, Some, refl, ap, arith, map, get_or, ◌≤◌}

pub kept : {X : Type 0} (xs ys : List X) (i : ℕ) (x : X) → slice_get xs i ≡ Some x → slice_get (xs ++ ys) i ≡ Some x
kept [] ys i x h = absurd cc
kept (y ∷ xs) ys zero x h = h
kept (y ∷ xs) ys (suc i) x h = kept xs ys i x h

pub at_last : {X : Type 0} (xs : List X) (x : X) → slice_get (xs ++ x ∷ []) (length xs) ≡ Some x
at_last [] x = refl
at_last (y ∷ xs) x = at_last xs x

pub at_grown : {X : Type 0} (xs : List X) (x u : X) (i : ℕ) → slice_get (xs ++ x ∷ []) i ≡ Some u
    → (slice_get xs i ≡ Some u) ⊎ ((i ≡ length xs) × (u ≡ x))
at_grown [] x u zero e = inr (refl, cc)
at_grown [] x u (suc i) e = absurd cc
at_grown (y ∷ xs) x u zero e = inl e
at_grown (y ∷ xs) x u (suc i) e = elim (at_grown xs x u i e) [ inl h ↦ inl h | inr h ↦ inr (ap suc h.0, h.1) ]

pub within : {X : Type 0} (xs : List X) (i : ℕ) (x : X) → slice_get xs i ≡ Some x → i < length xs
within [] i x h = absurd cc
within (y ∷ xs) zero x h = omega arith
within (y ∷ xs) (suc i) x h = let le = within xs i x h in omega (arith, le)

pub at_within : {X : Type 0} (xs : List X) (i : ℕ) → i < length xs → (x : X) × (slice_get xs i ≡ Some x)
at_within [] i h = absurd (omega (arith, h))
at_within (y ∷ xs) zero h = (y, refl)
at_within (y ∷ xs) (suc i) h = at_within xs i (omega (arith, h))

pub mapped_at : {X Y : Type 0} (f : X → Y) (xs : List X) (i : ℕ) (x : X) → slice_get xs i ≡ Some x → slice_get (map f xs) i ≡ Some (f x)
mapped_at f [] i x h = absurd cc
mapped_at f (y ∷ xs) zero x h = let e : y ≡ x = cc in ap (λ z. Some (f z)) e
mapped_at f (y ∷ xs) (suc i) x h = mapped_at f xs i x h

pub mapped_from : {X Y : Type 0} (f : X → Y) (xs : List X) (i : ℕ) (y : Y) → slice_get (map f xs) i ≡ Some y → (x : X) × (slice_get xs i ≡ Some x)
mapped_from f [] i y h = absurd cc
mapped_from f (x ∷ xs) zero y h = (x, refl)
mapped_from f (x ∷ xs) (suc i) y h = mapped_from f xs i y h

pub mapped_length : {X Y : Type 0} (f : X → Y) (xs : List X) → length (map f xs) ≡ length xs
mapped_length f [] = refl
mapped_length f (x ∷ xs) = ap suc (mapped_length f xs)

pub at_get : {X : Type 0} (xs : List X) (i : ℕ) (d : X) → i < length xs → slice_get xs i ≡ Some (get_or xs i d)
at_get [] i d h = absurd (omega (arith, h))
at_get (y ∷ xs) zero d h = refl
at_get (y ∷ xs) (suc i) d h = at_get xs i d (omega (arith, h))

pub got : {X : Type 0} (xs : List X) (i : ℕ) (d x : X) → slice_get xs i ≡ Some x → get_or xs i d ≡ x
got [] i d x h = absurd cc
got (y ∷ xs) zero d x h = cc
got (y ∷ xs) (suc i) d x h = got xs i d x h

pub lt_or_ge : (a b : ℕ) → (a < b) ⊎ (b ≤ a)
lt_or_ge a zero = inr (omega arith)
lt_or_ge zero (suc b) = inl (omega arith)
lt_or_ge (suc a) (suc b) = elim (lt_or_ge a b) [ inl h ↦ inl (omega (arith, h)) | inr h ↦ inr (omega (arith, h)) ]
