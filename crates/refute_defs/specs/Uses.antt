-- Nodes of trees as definitions speak of them.
use Rattle.std.specs.Prelude.{ℕ, List}
use Rattle.rp_logic.specs.Terms.{Tm, At}

-- A rule, with the places of the branch, the terms, the atoms and the number that it is used on.
pub record Use : Type 0 where
  pub rule : ℕ
  pub places : List ℕ
  pub terms : List Tm
  pub atoms : List At
  pub pick : ℕ

pub data Nd : Type 0 where
  Rule : (u : Use) → Nd
  -- leaves of a search
  Unvisited Current : Nd
