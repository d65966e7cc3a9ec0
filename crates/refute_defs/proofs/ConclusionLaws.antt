-- What follows where formulas are refuted.
use Rattle.std.proofs.Common.{◌≡◌, ℕ, zero, suc, ◌<◌, List, [], ◌∷◌, ◌++◌, Bool, true, false, refl, slice_get, get_or, Some, ◌⊎◌, inl, inr, ⊎_elim, arith, subst, sym, ◌∙◌, eq-or-lt_of_le, le_of_suc-le-suc, ltb-true}
use Rattle.std.proofs.lemmas.Bool.{and_parts}
use Rattle.rp_logic.specs.declared.sort.Sort.TheVariants as sort
use Rattle.rp_logic.specs.Terms.{At}
use Rattle.rp_logic.specs.Formulas.{Fm, Fms, Or, Ex, Lit, no_fm, also_fm}
use Rattle.rp_logic.specs.Signatures.{Signature, is_int, is_str}
use Rattle.rp_logic.specs.Elements.{Elem, Point, Whole, Text, Made}
use Rattle.rp_logic.specs.Structures.{Structure, is_elem, IsStructure}
use Rattle.rp_logic.specs.Truth.{Meaning, meaning, atom_truth, Holds, AllTrue, IsRefuted}
use Rattle.rp_logic.specs.Dual.{dual}
use Rattle.rp_logic.proofs.DualLaws.{stable, dual_law}
use Rattle.rp_logic.proofs.SortLaws.{no}
use Rattle.refute_defs.specs.Conclusions.{IsDecided, AreDecided, SomeHolds, size_of, IsDecidedOver, HasWitness}
use Rattle.refute_defs.proofs.SignatureFacts.{IsKept}
use Rattle.refute_defs.proofs.Sound.{true_more}

pub follows : (S : Signature) (given : List Fm) (claim : Fm)
    → IsRefuted S (given ++ dual claim ∷ []) → (M : Structure) → IsStructure S M
    → AllTrue (meaning S M) given → Holds (meaning S M) [] claim
follows S given claim r M fits t =
    stable claim (meaning S M) [] (λ n. r M fits (true_more _ _ _ t ((dual_law claim (meaning S M) []).1 n)))

-- # Disjunctions

pick : (M : Meaning) (vars : List Elem) (f : Fm) (fs : Fms)
    → (Holds M vars (Or fs) → SomeHolds M vars fs) → Holds M vars (Or (also_fm f fs))
    → IsDecided M vars f → SomeHolds M vars (also_fm f fs)
pick M vars f fs rest h (inl t) = (0, f, refl, t)
pick M vars f fs rest h (inr n) = let r = rest (λ k. h (n, k)) in (suc r.0, r.1, r.2, r.3)

pub some_disjunct : (M : Meaning) (vars : List Elem) (fs : Fms) → AreDecided M vars fs
    → Holds M vars (Or fs) → SomeHolds M vars fs
some_disjunct M vars no_fm d h = absurd (h tt)
some_disjunct M vars (also_fm f fs) d h =
    pick M vars f fs (λ k. some_disjunct M vars fs d.1 k) h d.0

pub literal_decided : (M : Meaning) (vars : List Elem) (sign : Bool) (a : At)
    → IsDecided M vars (Lit sign a)
literal_decided M vars sign a = by (atom_truth M vars a) sign
  where
    by : (x y : Bool) → (x ≡ y) ⊎ (¬ (x ≡ y))
    by true true = inl refl
    by false false = inl refl
    by true false = inr (λ p. cc)
    by false true = inr (λ p. cc)

-- # Witnesses

before_last : (P : ℕ → Type 0) (i n : ℕ) → i < suc n → ¬ P n → ((j : ℕ) → j < n → ¬ P j) → P i → ⊥
before_last P i n l f k p =
    ⊎_elim (λ e. f (subst P e p)) (λ lt. k i lt p) (eq-or-lt_of_le (le_of_suc-le-suc l))

last_or_before : (P : ℕ → Type 0) (n : ℕ) → P n ⊎ (¬ P n)
    → (¬ ((i : ℕ) → i < n → ¬ P i) → (i : ℕ) × (i < n) × P i) → ¬ ((i : ℕ) → i < suc n → ¬ P i)
    → (i : ℕ) × (i < suc n) × P i
last_or_before P n (inl t) before h = (n, omega arith, t)
last_or_before P n (inr f) before h =
    let r = before (λ k. h (λ i l p. before_last P i n l f k p)) in
    let l = r.1 in
    (r.0, omega arith, r.2)

-- one of the numbers below n, where each is decided and not none of them is
one_below : (P : ℕ → Type 0) (n : ℕ) → ((i : ℕ) → i < n → P i ⊎ (¬ P i))
    → ¬ ((i : ℕ) → i < n → ¬ P i) → (i : ℕ) × (i < n) × P i
one_below P zero d h = absurd (h (λ i l. absurd (omega arith)))
one_below P (suc n) d h =
    last_or_before P n (d n (omega arith)) (one_below P n (λ i l. d i (omega arith))) h

-- an element of a plain sort is a number below its size
plain_elem : (S : Signature) → IsKept S → (sizes : List ℕ) (s : ℕ) (v : Elem)
    → slice_get S.sorts s ≡ Some sort.Plain → is_elem S sizes s v ≡ true
    → (n : ℕ) × (n < get_or sizes s 0) × (v ≡ Point n)
plain_elem S i sizes s (Point n) e h =
    (n, ltb-true n (get_or sizes s 0) (and_parts _ _ h).1, refl)
plain_elem S i sizes s (Whole n) e h = no (subst (λ o. is_int o ≡ true) e h)
plain_elem S i sizes s (Text bytes) e h = no (subst (λ o. is_str o ≡ true) e h)
plain_elem S i sizes s (Made c xs) e h =
    let d = i.of_datatype c s (and_parts _ _ h).0 in
    absurd (differ (sym e ∙ d.1))
  where
    differ : {cons : List ℕ} → Some sort.Plain ≡ Some (sort.Datatype cons) → ⊥
    differ e = absurd cc

pub witness : (M : Meaning) → IsKept M.sig → (vars : List Elem) (s : ℕ) (f : Fm)
    → slice_get M.sig.sorts s ≡ Some sort.Plain → IsDecidedOver M vars s f → Holds M vars (Ex s f)
    → HasWitness M vars s f
witness M i vars s f p d h =
    one_below (λ n. Holds M (Point n ∷ vars) f) (size_of M s) d
    (λ none. h (λ v q t.
    let w = plain_elem M.sig i M.structure.sizes s v p q in
    none w.0 w.1 (subst (λ x. Holds M (x ∷ vars) f) w.2 t)))
