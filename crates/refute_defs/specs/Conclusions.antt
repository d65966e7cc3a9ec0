-- What follows where formulas are refuted: words of the laws.
use Rattle.std.specs.Prelude.{◌≡◌, ◌⊎◌, ◌<◌, ℕ, List, ◌∷◌, get_or, Some}
use Rattle.rp_logic.specs.Formulas.{Fm, Fms, no_fm, also_fm}
use Rattle.rp_logic.specs.Elements.{Elem, Point}
use Rattle.rp_logic.specs.Truth.{Meaning, Holds}
use Rattle.refute_defs.specs.Parts.{nth_fm}

-- it is known whether the formula is true
abbrev pub IsDecided : Meaning → List Elem → Fm → Type 0
IsDecided M vars f = Holds M vars f ⊎ (¬ Holds M vars f)

abbrev pub AreDecided : Meaning → List Elem → Fms → Type 0
AreDecided M vars no_fm = Unit {0}
AreDecided M vars (also_fm f fs) = IsDecided M vars f × AreDecided M vars fs

-- one of the formulas is true
abbrev pub SomeHolds : Meaning → List Elem → Fms → Type 0
SomeHolds M vars fs = (i : ℕ) × (f : Fm) × (nth_fm fs i ≡ Some f) × Holds M vars f

-- the number of elements of a plain sort
abbrev pub size_of : Meaning → ℕ → ℕ
size_of M s = get_or M.structure.sizes s 0

-- at each element of the plain sort it is known whether the body is true
abbrev pub IsDecidedOver : Meaning → List Elem → ℕ → Fm → Type 0
IsDecidedOver M vars s body = (n : ℕ) → n < size_of M s → IsDecided M (Point n ∷ vars) body

-- the body is true at some element of the plain sort
abbrev pub HasWitness : Meaning → List Elem → ℕ → Fm → Type 0
HasWitness M vars s body = (n : ℕ) × (n < size_of M s) × Holds M (Point n ∷ vars) body
