-- Branches: what stands from the root of a tree to a node.
use Rattle.std.specs.Prelude.{ℕ, List, [], ◌∷◌, ◌++◌, map, slice_get, Option, Some, None}
use Rattle.rp_logic.specs.declared.sort.NewConst.{NewConst}
use Rattle.rp_logic.specs.Formulas.{Fm}
pub use Rattle.refute_defs.specs.Additions.{Addition, formula_alone}

pub record Branch : Type 0 where
  -- the given formulas, then the added ones, each at its place
  pub formulas : List Fm
  -- the constants that were brought beside the signature's, the oldest first
  pub added : List NewConst

abbrev pub with_const : List NewConst → Option NewConst → List NewConst
with_const added None = added
with_const added (Some new) = added ++ new ∷ []

abbrev pub extend : Branch → Addition → Branch
extend b addition = record {
  formulas = b.formulas ++ addition.formula ∷ [];
  added = with_const b.added addition.brings;
}

-- the branches of a node's children
abbrev pub extend_each : Branch → List Addition → List Branch
extend_each b additions = map (extend b) additions

-- the branch of the root
abbrev pub root : List Fm → Branch
root given = record { formulas = given; added = [] }

abbrev pub formula_at : Branch → ℕ → Option Fm
formula_at b p = slice_get b.formulas p
