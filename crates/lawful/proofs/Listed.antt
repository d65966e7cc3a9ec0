-- Members of lists, and the datatypes of a text among them.
use Rattle.std.proofs.Common.{◌≡◌, ◌+◌, ◌<◌, ℕ, Bool, true, false, not, cond, List, [], ◌∷◌, ◌++◌, length, Some, None, refl, ap, subst, sym, ◌∙◌, arith, inl, inr}
use Rattle.std.specs.Prelude.{filter, flat_map, position}
use Rattle.std.specs.List.{position_or_len}
use Rattle.std.proofs.lemmas.Bool.{lt-ltb, true≢false}
use Rattle.type_rules.specs.declared.kind.Kind.{Kind}
use Rattle.type_rules.specs.Faults.{IsOneOf}
use Rattle.desugaring.specs.Appearances.{same_kind, each_once}
use Rattle.lawful.proofs.Basics.{kind_one}

pub in_left : {X : Type 0} (x : X) (xs ys : List X) → IsOneOf x xs → IsOneOf x (xs ++ ys)
in_left x [] ys at = absurd at
in_left x (y ∷ xs) ys (inl h) = inl h
in_left x (y ∷ xs) ys (inr h) = inr (in_left x xs ys h)

pub in_right : {X : Type 0} (x : X) (xs ys : List X) → IsOneOf x ys → IsOneOf x (xs ++ ys)
in_right x [] ys at = at
in_right x (y ∷ xs) ys at = inr (in_right x xs ys at)

pub in_flat : {X Y : Type 0} (f : X → List Y) (xs : List X) (x : X) (y : Y) → IsOneOf x xs → IsOneOf y (f x) → IsOneOf y (flat_map f xs)
in_flat f [] x y at made = absurd at
in_flat f (z ∷ xs) x y (inl h) made = in_left y (f z) (flat_map f xs) (subst (λ w. IsOneOf y (f w)) (sym h) made)
in_flat f (z ∷ xs) x y (inr h) made = in_right y (f z) (flat_map f xs) (in_flat f xs x y h made)

in_filter : {X : Type 0} (p : X → Bool) (x : X) (xs : List X) → p x ≡ true → IsOneOf x xs → IsOneOf x (filter p xs)
in_filter p x [] passes at = absurd at
in_filter p x (y ∷ xs) passes (inl h) =
    subst (λ b. IsOneOf x (cond b (y ∷ filter p xs) (filter p xs))) (sym (ap p h ∙ passes)) (inl h)
in_filter {X} p x (y ∷ xs) passes (inr h) = by_test x y (filter p xs) (p y) (in_filter p x xs passes h) where
  by_test : {X : Type 0} (x y : X) (rest : List X) (stays : Bool) → IsOneOf x rest → IsOneOf x (cond stays (y ∷ rest) rest)
  by_test x y rest true at = inr at
  by_test x y rest false at = at

-- what is taken once is still there
pub in_once : (k : Kind) (ks : List Kind) → IsOneOf k ks → IsOneOf k (each_once ks)
in_once k [] at = absurd at
in_once k (d ∷ ks) (inl h) = inl h
in_once k (d ∷ ks) (inr h) = by_same k d ks (same_kind d k) refl (in_once k ks h) where
  by_same : (k d : Kind) (ks : List Kind) (same : Bool) → same_kind d k ≡ same → IsOneOf k (each_once ks)
      → IsOneOf k (d ∷ filter (λ other. not (same_kind d other)) (each_once ks))
  by_same k d ks true is at = inl (kind_one d k is)
  by_same k d ks false is at = inr (in_filter (λ other. not (same_kind d other)) k (each_once ks) (ap not is) at)

place_within : {X : Type 0} (p : X → Bool) (x : X) (xs : List X) → p x ≡ true → IsOneOf x xs → position_or_len p xs < length xs
place_within p x [] passes at = absurd at
place_within {X} p x (y ∷ xs) passes at = by_test p x y xs (p y) refl passes at (place_within p x xs passes) where
  by_test : {X : Type 0} (p : X → Bool) (x y : X) (xs : List X) (first : Bool) → p y ≡ first → p x ≡ true → IsOneOf x (y ∷ xs)
      → (IsOneOf x xs → position_or_len p xs < length xs) → cond (not first) (1 + position_or_len p xs) 0 < length (y ∷ xs)
  by_test p x y xs true is passes at rest = omega arith
  by_test p x y xs false is passes (inl h) rest = absurd (true≢false (sym passes ∙ sym (ap p h) ∙ is))
  by_test p x y xs false is passes (inr h) rest = let r = rest h in omega (arith, r)

-- a member that passes has a first place before it
pub position_there : {X : Type 0} (p : X → Bool) (x : X) (xs : List X) → p x ≡ true → IsOneOf x xs → (i : ℕ) × (position p xs ≡ Some i)
position_there p x xs passes at = (
  position_or_len p xs,
  ap (λ b. cond b (Some (position_or_len p xs)) None) (lt-ltb (position_or_len p xs) (length xs) (place_within p x xs passes at)),
)
