-- Marks of the constants past the signature's: each with the first place of the branch where it
-- stands. Lists of marks have the newest one first.
use Rattle.std.specs.Prelude.{ℕ, suc, ◌<◌, ◌≤◌, ◌≡◌, Bool, false, not, ◌&&◌, ◌||◌, ◌==◌, nat_lt, List, [], ◌∷◌, map, take, length, reverse}
use Rattle.rp_logic.specs.declared.sig.Sig.{Sig}
use Rattle.rp_logic.specs.Formulas.{Fm}
use Rattle.rp_logic.specs.Views.{formula_view}
use Rattle.rp_logic.specs.Constants.{each_lacks}
use Rattle.refute_branch.specs.declared.marks.Mark.{Mark}
use Rattle.refute_branch.specs.declared.branch.OpenBranch.{OpenBranch}

-- the constant has a mark at one of the first n places
abbrev pub stands_before : ℕ → ℕ → List Mark → Bool
stands_before n c [] = false
stands_before n c (m ∷ ms) = (c == m.number && nat_lt m.place n) || stands_before n c ms

-- the places descend, and are below n
abbrev pub Descend : ℕ → List Mark → Type 0
Descend n [] = Unit {0}
Descend n (m ∷ ms) = (m.place < n) × Descend (suc m.place) ms

-- The marks say of each constant past the signature's whether it stands in the first n formulas.
pub record AreMarks (consts : ℕ) (marks : List Mark) (formulas : List Fm) : Type 0 where
  pub stands : (n c : ℕ) → consts ≤ c → stands_before n c marks ≡ not (each_lacks c (take n formulas))
  pub descend : Descend (length formulas) marks

abbrev pub HasMarks : Sig → OpenBranch → Type 0
HasMarks sig b = AreMarks (length sig.consts) (reverse b.marks) (map formula_view b.formulas)
