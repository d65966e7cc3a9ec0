-- What a node adds to its branch for its children.
use Rattle.std.specs.Prelude.{ℕ, List, [], ◌∷◌, Option, Some, None}
use Rattle.rp_logic.specs.declared.sort.NewConst.{NewConst}
use Rattle.rp_logic.specs.Terms.{Tm}
use Rattle.rp_logic.specs.Formulas.{Fm, Fms, no_fm, also_fm}
use Rattle.rp_logic.specs.Signatures.{Signature}
use Rattle.refute_defs.specs.Parts.{built_with}

-- for one child: a formula, and the constant that is brought beside the signature's
pub record Addition : Type 0 where
  pub formula : Fm
  pub brings : Option NewConst

-- a formula, and no constant
abbrev pub formula_alone : Fm → Addition
formula_alone f = record { formula = f; brings = None }

-- one child, with one formula more
abbrev pub one_child : Fm → List Addition
one_child f = formula_alone f ∷ []

-- one child, with a formula about a constant of this number and sort that is brought
abbrev pub bringing : ℕ → ℕ → Fm → List Addition
bringing c sort f = record { formula = f; brings = Some (record { number = c; sort = sort }) } ∷ []

-- a child for each formula
abbrev pub child_for_each : Fms → List Addition
child_for_each no_fm = []
child_for_each (also_fm f fs) = formula_alone f ∷ child_for_each fs

-- a child for each constructor, with the equality that says that t was built with it
abbrev pub child_for_each_con : Signature → Tm → List ℕ → List Addition
child_for_each_con S t [] = []
child_for_each_con S t (con ∷ cons) =
    formula_alone (built_with S t con) ∷ child_for_each_con S t cons
