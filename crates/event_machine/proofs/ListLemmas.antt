-- What holds of each element of two lists, and an element of a list with one more in front.
use Rattle.std.proofs.Common.{◌≡◌, List, [], ◌∷◌, ◌++◌, ◌⊎◌, inl, inr, All, Contains, arith}
use Rattle.std.proofs.lemmas.List.Elements.{All-nil, All-cons, All-head, All-tail, Contains-append_cases, Contains-push_cases}

pub All-left : {A : Type 0} (P : A → Type 0) (xs ys : List A) → All P (xs ++ ys) → All P xs
All-left P [] ys all = All-nil P
All-left P (x ∷ xs) ys all = All-cons P x xs (All-head P x (xs ++ ys) all) (All-left P xs ys (All-tail P x (xs ++ ys) all))

pub All-right : {A : Type 0} (P : A → Type 0) (xs ys : List A) → All P (xs ++ ys) → All P ys
All-right P [] ys all = all
All-right P (x ∷ xs) ys all = All-right P xs ys (All-tail P x (xs ++ ys) all)

pub Contains-nil : {A : Type 0} (x : A) → Contains [] x → ⊥
Contains-nil x (k, within, is) = omega arith

-- it is the first, or among the others
pub Contains-cons_cases : {A : Type 0} (y : A) (ys : List A) (x : A) → Contains (y ∷ ys) x → (y ≡ x) ⊎ Contains ys x
Contains-cons_cases y ys x has =
    elim (Contains-append_cases (y ∷ []) ys x has) [
      | inl one ↦ elim (Contains-push_cases [] y x one) [ inl none ↦ absurd (Contains-nil x none) | inr same ↦ inl same ]
      | inr later ↦ inr later
    ]
